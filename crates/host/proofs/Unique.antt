-- Each entry's promise leaves one answer, and one content of each buffer lent to be written. `Post` is what the prover reads off the source's own
-- `ensures`, so a weaker clause there breaks its line here.
-- Assumes nothing.
use mathlib.Core.Path.{sym, ◌∙◌}
use mathlib.Core.Bool.{Bool}
use mathlib.Core.List.{List}
use Prim.Native.Nat.{ℕ}
use lib.IntN.{ℤ}
use Rattle.base.proofs.Unique.{OneAnswer, OneAnswerOver, same}
use Rattle.host_answer.specs.Seen.{SeenCall, seen_call}
use Rattle.host_answer.proofs.Calls.{one_call}
use Rattle.host_log.specs.State.{is_state}
use Rattle.host_log.specs.Seen as log-seen
use Rattle.host_log.proofs.Calls.{one_log_call, one_log_end}
use Rattle.host.proofs.state.crsf_next_raw_packet.Reads as next-raw-packet
use Rattle.host.proofs.state.crsf_reset.Reads as reset
use Rattle.host.proofs.state.crsf_save.Reads as save
use Rattle.host.proofs.state.crsf_restore.Reads as restore
use Rattle.host.proofs.state.crsf_held.Reads as held
use Rattle.host.proofs.state.crsf_position.Reads as position
use Rattle.host.proofs.write.crsf_write_link_statistics.Reads as write-link-statistics
use Rattle.host.proofs.write.crsf_write_rc_channels_packed.Reads as write-rc-channels-packed
use Rattle.host.proofs.write.crsf_write_gps.Reads as write-gps
use Rattle.host.proofs.write.crsf_write_gps_extended.Reads as write-gps-extended
use Rattle.host.proofs.write.crsf_write_battery.Reads as write-battery
use Rattle.host.proofs.write.crsf_write_baro_altitude.Reads as write-baro-altitude
use Rattle.host.proofs.write.crsf_write_rc_channels_burst.Reads as write-rc-channels-burst
use Rattle.host.proofs.write.crsf_write_rpm.Reads as write-rpm
use Rattle.host.proofs.write.crsf_write_temp.Reads as write-temp
use Rattle.host.proofs.write.crsf_write_voltages.Reads as write-voltages
use Rattle.host.proofs.read.crsf_read_link_statistics.Reads as read-link-statistics
use Rattle.host.proofs.read.crsf_read_rc_channels_packed.Reads as read-rc-channels-packed
use Rattle.host.proofs.read.crsf_read_gps.Reads as read-gps
use Rattle.host.proofs.read.crsf_read_gps_extended.Reads as read-gps-extended
use Rattle.host.proofs.read.crsf_read_battery.Reads as read-battery
use Rattle.host.proofs.read.crsf_read_baro_altitude.Reads as read-baro-altitude
use Rattle.host.proofs.read.crsf_read_rpm.Reads as read-rpm
use Rattle.host.proofs.read.crsf_read_temp.Reads as read-temp
use Rattle.host.proofs.read.crsf_read_voltages.Reads as read-voltages
use Rattle.host.proofs.query.crsf_is_address.Reads as is_Address
use Rattle.host.proofs.query.crsf_header_of.Reads as header_of
use Rattle.host.proofs.query.crsf_checksum.Reads as checksum
use Rattle.host.proofs.query.crsf_pack_altitude.Reads as pack-altitude
use Rattle.host.proofs.query.crsf_baro_decimetres.Reads as baro-decimetres
use Rattle.host.proofs.query.crsf_gps_metres.Reads as gps-metres
use Rattle.host.proofs.views.crsf_channel_microseconds.Reads as channel-microseconds
use Rattle.host.proofs.views.crsf_raw_view.Reads as raw-view
use Rattle.host.proofs.logs.crsf_log_next.Reads as log-next
use Rattle.host.proofs.logs.crsf_log_end.Reads as log-end
use Rattle.host.proofs.logs.crsf_log_reset.Reads as log-reset
use Rattle.host.proofs.logs.crsf_log_start.Reads as log-start
use Rattle.host.proofs.logs.crsf_log_entry.Reads as log-entry
use Rattle.host.proofs.Shown.{by_answer}

-- ---- The state

pub next_raw_packet_one : OneAnswer {Seen = SeenCall} next-raw-packet.Post (λ κs r s. seen_call r s.0.now s.1.1.0.now)
next_raw_packet_one κs a r r' s s' = one_call a.0.now a.1.0.now a.1.1.0.now

pub reset_one : OneAnswer {Seen = ℕ × List ℕ} reset.Post (λ κs r s. (r, s.0.now))
reset_one κs a r r' s s' = same

pub save_one : OneAnswer {Seen = ℕ × List ℕ} save.Post (λ κs r s. (r, s.1.0.now))
save_one κs a r r' s s' = same

pub restore_one : OneAnswer {Seen = ℕ × List ℕ} restore.Post (λ κs r s. (r, s.0.now))
restore_one κs a r r' s s' = same

pub held_one : OneAnswer {Seen = ℕ} held.Post (λ κs r s. r)
held_one κs a r r' s s' = same

pub position_one : OneAnswer {Seen = ℕ × List ℕ} position.Post (λ κs r s. (r, s.1.0.now))
position_one κs a r r' s s' = same

-- ---- Writers

pub write_link_statistics_one : OneAnswer {Seen = ℕ × List ℕ} write-link-statistics.Post (λ κs r s. (r, s.0.now))
write_link_statistics_one κs a r r' s s' = same

pub write_rc_channels_packed_one : OneAnswer {Seen = ℕ × List ℕ} write-rc-channels-packed.Post (λ κs r s. (r, s.0.now))
write_rc_channels_packed_one κs a r r' s s' = same

pub write_gps_one : OneAnswer {Seen = ℕ × List ℕ} write-gps.Post (λ κs r s. (r, s.0.now))
write_gps_one κs a r r' s s' = same

pub write_gps_extended_one : OneAnswer {Seen = ℕ × List ℕ} write-gps-extended.Post (λ κs r s. (r, s.0.now))
write_gps_extended_one κs a r r' s s' = same

pub write_battery_one : OneAnswer {Seen = ℕ × List ℕ} write-battery.Post (λ κs r s. (r, s.0.now))
write_battery_one κs a r r' s s' = same

pub write_baro_altitude_one : OneAnswer {Seen = ℕ × List ℕ} write-baro-altitude.Post (λ κs r s. (r, s.0.now))
write_baro_altitude_one κs a r r' s s' = same

pub write_rc_channels_burst_one : OneAnswer {Seen = ℕ × List ℕ} write-rc-channels-burst.Post (λ κs r s. (r, s.0.now))
write_rc_channels_burst_one κs a r r' s s' = same

pub write_rpm_one : OneAnswer {Seen = ℕ × List ℕ} write-rpm.Post (λ κs r s. (r, s.0.now))
write_rpm_one κs a r r' s s' = same

pub write_temp_one : OneAnswer {Seen = ℕ × List ℕ} write-temp.Post (λ κs r s. (r, s.0.now))
write_temp_one κs a r r' s s' = same

pub write_voltages_one : OneAnswer {Seen = ℕ × List ℕ} write-voltages.Post (λ κs r s. (r, s.0.now))
write_voltages_one κs a r r' s s' = same

-- ---- Readers

pub read_link_statistics_one : OneAnswer {Seen = ℕ × List ℤ} read-link-statistics.Post (λ κs r s. (r, s.1.0.now))
read_link_statistics_one κs a r r' s s' = same

pub read_rc_channels_packed_one : OneAnswer {Seen = ℕ × List ℕ} read-rc-channels-packed.Post (λ κs r s. (r, s.1.0.now))
read_rc_channels_packed_one κs a r r' s s' = same

pub read_gps_one : OneAnswer {Seen = ℕ × List ℤ} read-gps.Post (λ κs r s. (r, s.1.0.now))
read_gps_one κs a r r' s s' = same

pub read_gps_extended_one : OneAnswer {Seen = ℕ × List ℤ} read-gps-extended.Post (λ κs r s. (r, s.1.0.now))
read_gps_extended_one κs a r r' s s' = same

pub read_battery_one : OneAnswer {Seen = ℕ × List ℤ} read-battery.Post (λ κs r s. (r, s.1.0.now))
read_battery_one κs a r r' s s' = same

pub read_baro_altitude_one : OneAnswer {Seen = ℕ × List ℤ} read-baro-altitude.Post (λ κs r s. (r, s.1.0.now))
read_baro_altitude_one κs a r r' s s' = same

pub read_rpm_one : OneAnswer {Seen = ℕ × List ℤ} read-rpm.Post (λ κs r s. (r, s.1.0.now))
read_rpm_one κs a r r' s s' = same

pub read_temp_one : OneAnswer {Seen = ℕ × List ℤ} read-temp.Post (λ κs r s. (r, s.1.0.now))
read_temp_one κs a r r' s s' = same

pub read_voltages_one : OneAnswer {Seen = ℕ × List ℕ} read-voltages.Post (λ κs r s. (r, s.1.0.now))
read_voltages_one κs a r r' s s' = same

-- ---- Questions

pub is_address_one : OneAnswer {Seen = Bool} is_Address.Post (λ κs r s. r)
is_address_one κs a r r' s s' = same

pub header_of_one : OneAnswer {Seen = ℕ} header_of.Post (λ κs r s. r)
header_of_one κs a r r' s s' = same

pub checksum_one : OneAnswer {Seen = ℕ} checksum.Post (λ κs r s. r)
checksum_one κs a r r' s s' = same

pub pack_altitude_one : OneAnswer {Seen = ℕ} pack-altitude.Post (λ κs r s. r)
pack_altitude_one κs a r r' s s' = same

pub baro_decimetres_one : OneAnswer {Seen = ℤ} baro-decimetres.Post (λ κs r s. r)
baro_decimetres_one κs a r r' s s' = same

pub gps_metres_one : OneAnswer {Seen = ℤ} gps-metres.Post (λ κs r s. r)
gps_metres_one κs a r r' s s' = same

-- ---- Views

pub channel_microseconds_one : OneAnswer {Seen = ℕ × List ℕ} channel-microseconds.Post (λ κs r s. (r, s.1.0.now))
channel_microseconds_one κs a r r' s s' p q = by_answer p q.exact ∙ sym q.gives

pub raw_view_one : OneAnswer {Seen = ℕ} raw-view.Post (λ κs r s. r)
raw_view_one κs a r r' s s' = same

-- ---- The kit log

pub log_next_one : OneAnswerOver {Seen = log-seen.SeenCall} log-next.Post
    (λ κs a r s. log-seen.seen_call (is_state a.0.now) s.0.now s.1.1.0.now r)
log_next_one κs a r r' s s' = one_log_call a.0.now a.1.0.now a.1.1.0.now

pub log_end_one : OneAnswer {Seen = ℕ × List ℕ} log-end.Post (λ κs r s. (r, s.0.now))
log_end_one κs a r r' s s' = one_log_end a.0.now

pub log_reset_one : OneAnswer {Seen = ℕ × List ℕ} log-reset.Post (λ κs r s. (r, s.0.now))
log_reset_one κs a r r' s s' = same

pub log_start_one : OneAnswer {Seen = ℕ × List ℕ} log-start.Post (λ κs r s. (r, s.0.now))
log_start_one κs a r r' s s' = same

pub log_entry_one : OneAnswer {Seen = ℕ × List ℕ} log-entry.Post (λ κs r s. (r, s.1.1.0.now))
log_entry_one κs a r r' s s' = same
