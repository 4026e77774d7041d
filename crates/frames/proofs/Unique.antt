-- The promise of each frame writer leaves one answer and one content of the buffer: of the generic one whatever the record is, so of each record.
-- Assumes nothing.
use denote.RattleType.{RattleType}
use denote.Param.Laws.{Laws, IsCopy}
use denote.Struct.Field.{i32-field, i16-field, u16-field}
use mathlib.Core.List.{List}
use mir.Syntax.{Dict}
use Prim.Native.Nat.{ℕ}
use Rattle.base.proofs.Unique.{OneAnswer, same}
use Rattle.layout.specs.declared.CrsfPacket as packet
use Rattle.std.specs.declared.clone.Clone as clone
use Rattle.writing.specs.Writing.{Written}
use Rattle.writing.proofs.Rows.{one_write}
use Rattle.positions.specs.contracts.gps.Gps as gps
use Rattle.positions.specs.contracts.gps.GpsCrsfPacket.TheImpl as gps-packet
use Rattle.positions.specs.contracts.gps_extended.GpsExtended as gps-extended
use Rattle.positions.specs.contracts.gps_extended.GpsExtendedCrsfPacket.TheImpl as gps-extended-packet
use Rattle.records.specs.contracts.link_statistics.LinkStatistics as link-statistics
use Rattle.records.specs.contracts.link_statistics.LinkStatisticsCrsfPacket.TheImpl as link-statistics-packet
use Rattle.records.specs.contracts.battery.Battery as battery
use Rattle.records.specs.contracts.battery.BatteryCrsfPacket.TheImpl as battery-packet
use Rattle.records.specs.contracts.baro_altitude.BaroAltitude as baro-altitude
use Rattle.records.specs.contracts.baro_altitude.BaroAltitudeCrsfPacket.TheImpl as baro-altitude-packet
use Rattle.series.specs.contracts.rpm.Rpm as rpm
use Rattle.series.specs.contracts.rpm.RpmCrsfPacket.TheImpl as rpm-packet
use Rattle.series.specs.contracts.temp.Temp as temp
use Rattle.series.specs.contracts.temp.TempCrsfPacket.TheImpl as temp-packet
use Rattle.series.specs.contracts.voltages.Voltages as voltages
use Rattle.series.specs.contracts.voltages.VoltagesCrsfPacket.TheImpl as voltages-packet
use Rattle.channels.specs.contracts.RcChannelsPacked as rc-channels-packed
use Rattle.channels.specs.contracts.RcChannelsPackedCrsfPacket.TheImpl as rc-channels-packed-packet
use Rattle.series.specs.contracts.rpm.RpmValued.TheImpl as rpm-valued
use Rattle.series.specs.contracts.temp.TempValued.TheImpl as temp-valued
use Rattle.series.specs.contracts.voltages.VoltagesValued.TheImpl as voltages-valued
use Rattle.series.specs.declared.valued.Valued as valued
use Rattle.frames.proofs.write_packet_to_buffer.Reads as write-packet-to-buffer
use Rattle.frames.proofs.write_values_to_buffer.Reads as write-values-to-buffer
use Rattle.frames.proofs.put_rc_channels.Reads as put-rc-channels

-- one answer of the writer at a type that has such an image
abbrev pub OneWrite : (T : RattleType) → packet.Ghosts T.Denot → Type 2
OneWrite T p = (l : Laws T) (k : IsCopy T) (d : Dict) (c : clone.Ghosts T.Denot) (e : Dict)
    → OneAnswer {Seen = Written × List ℕ} (write-packet-to-buffer.Post T l k p d c e) (λ κs r s. (r, s.0.now))

pub write_packet_to_buffer_one : (T : RattleType) (p : packet.Ghosts T.Denot) → OneWrite T p
write_packet_to_buffer_one T p l k d c e κs a r r' s s' = one_write

pub write_gps_one : OneWrite gps.the_row gps-packet.ghosts
write_gps_one = write_packet_to_buffer_one gps.the_row gps-packet.ghosts

pub write_gps_extended_one : OneWrite gps-extended.the_row gps-extended-packet.ghosts
write_gps_extended_one = write_packet_to_buffer_one gps-extended.the_row gps-extended-packet.ghosts

pub write_link_statistics_one : OneWrite link-statistics.the_row link-statistics-packet.ghosts
write_link_statistics_one = write_packet_to_buffer_one link-statistics.the_row link-statistics-packet.ghosts

pub write_battery_one : OneWrite battery.the_row battery-packet.ghosts
write_battery_one = write_packet_to_buffer_one battery.the_row battery-packet.ghosts

pub write_baro_altitude_one : OneWrite baro-altitude.the_row baro-altitude-packet.ghosts
write_baro_altitude_one = write_packet_to_buffer_one baro-altitude.the_row baro-altitude-packet.ghosts

pub write_rpm_one : OneWrite rpm.the_row rpm-packet.ghosts
write_rpm_one = write_packet_to_buffer_one rpm.the_row rpm-packet.ghosts

pub write_temp_one : OneWrite temp.the_row temp-packet.ghosts
write_temp_one = write_packet_to_buffer_one temp.the_row temp-packet.ghosts

pub write_voltages_one : OneWrite voltages.the_row voltages-packet.ghosts
write_voltages_one = write_packet_to_buffer_one voltages.the_row voltages-packet.ghosts

pub write_rc_channels_packed_one : OneWrite rc-channels-packed.the_row rc-channels-packed-packet.ghosts
write_rc_channels_packed_one = write_packet_to_buffer_one rc-channels-packed.the_row rc-channels-packed-packet.ghosts

-- .. and of the writer of values, at a type of records that has such a kind
abbrev pub OneWriteOf : (T V : RattleType) → valued.Ghosts T.Denot V.Denot → packet.Ghosts T.Denot → Type 2
OneWriteOf T V v p = (l : Laws T) (m : Laws V) (k : IsCopy T) (n : IsCopy V) (d : Dict) (c : clone.Ghosts V.Denot) (e f : Dict) (b : clone.Ghosts T.Denot) (h : Dict)
    → OneAnswer {Seen = Written × List ℕ} (write-values-to-buffer.Post T V l m k n v d c e p f b h) (λ κs r s. (r, s.0.now))

pub write_values_to_buffer_one : (T V : RattleType) (v : valued.Ghosts T.Denot V.Denot) (p : packet.Ghosts T.Denot) → OneWriteOf T V v p
write_values_to_buffer_one T V v p l m k n d c e f b h κs a r r' s s' = one_write

pub write_rpm_values_one : OneWriteOf rpm.the_row i32-field.row rpm-valued.ghosts rpm-packet.ghosts
write_rpm_values_one = write_values_to_buffer_one rpm.the_row i32-field.row rpm-valued.ghosts rpm-packet.ghosts

pub write_temp_values_one : OneWriteOf temp.the_row i16-field.row temp-valued.ghosts temp-packet.ghosts
write_temp_values_one = write_values_to_buffer_one temp.the_row i16-field.row temp-valued.ghosts temp-packet.ghosts

pub write_voltages_values_one : OneWriteOf voltages.the_row u16-field.row voltages-valued.ghosts voltages-packet.ghosts
write_voltages_values_one = write_values_to_buffer_one voltages.the_row u16-field.row voltages-valued.ghosts voltages-packet.ghosts

pub put_rc_channels_one : OneAnswer {Seen = List ℕ} put-rc-channels.Post (λ κs r s. s.0.now)
put_rc_channels_one κs a r r' s s' = same
