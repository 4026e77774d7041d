-- Writers of whole frames for a host (RULES 14): the record that an entry makes of its numbers, what the entry answers, and the buffer afterwards.
-- Assumes nothing.
use Rattle.std.specs.Prelude.{ℕ, List, eqb, ℤ, length, Err}
use Rattle.base.specs.Choice.{when◌then◌else◌}
use Rattle.packets.specs.Listed.{listed}
use Rattle.refusals.specs.declared.Refusal.{Refusal}
use Rattle.refusals.specs.declared.Refusal.TheVariants.{InvalidPayloadLength, BadAddress}
use Rattle.writing.specs.Writing.{Image, refused, write_of}
use Rattle.writing.specs.Writing.{Written}
use Rattle.positions.specs.declared.gps.Gps.{Gps}
use Rattle.positions.specs.declared.gps_extended.GpsExtended.{GpsExtended}
use Rattle.records.specs.declared.link_statistics.LinkStatistics.{LinkStatistics}
use Rattle.records.specs.declared.battery.Battery.{Battery}
use Rattle.records.specs.declared.baro_altitude.BaroAltitude.{BaroAltitude}
use Rattle.channels.specs.Channels.{channels_count, channels_image}
use Rattle.frames.specs.Frames.{framed}
use Rattle.host_answer.specs.Answer.{answers}

-- a frame of this address, type and payload: what is answered, and the buffer afterwards
abbrev pub writes : ℕ → ℕ → Image → List ℕ → ℕ × List ℕ
writes dest kind image buffer = answers (write_of (framed dest kind image) buffer)

-- ---- Records that are made of numbers: these in the entry's order

abbrev pub link_statistics_from : ℕ → ℕ → ℕ → ℤ → ℕ → ℕ → ℕ → ℕ → ℕ → ℤ → LinkStatistics
link_statistics_from uplink_rssi_1 uplink_rssi_2 uplink_link_quality uplink_snr active_antenna rf_mode
    uplink_tx_power downlink_rssi downlink_link_quality downlink_snr = record {
      uplink_rssi_1 = uplink_rssi_1;
      uplink_rssi_2 = uplink_rssi_2;
      uplink_link_quality = uplink_link_quality;
      uplink_snr = uplink_snr;
      active_antenna = active_antenna;
      rf_mode = rf_mode;
      uplink_tx_power = uplink_tx_power;
      downlink_rssi = downlink_rssi;
      downlink_link_quality = downlink_link_quality;
      downlink_snr = downlink_snr;
    }

abbrev pub gps_from : ℤ → ℤ → ℕ → ℕ → ℕ → ℕ → Gps
gps_from latitude longitude groundspeed heading altitude satellites = record {
  latitude = latitude;
  longitude = longitude;
  groundspeed = groundspeed;
  heading = heading;
  altitude = altitude;
  satellites = satellites;
}

abbrev pub gps_extended_from : ℕ → ℤ → ℤ → ℤ → ℤ → ℤ → ℤ → ℤ → ℤ → ℕ → ℕ → ℕ → GpsExtended
gps_extended_from fix_type n_speed e_speed v_speed h_speed_acc track_acc alt_ellipsoid h_acc v_acc
    reserved h_dop v_dop = record {
      fix_type = fix_type;
      n_speed = n_speed;
      e_speed = e_speed;
      v_speed = v_speed;
      h_speed_acc = h_speed_acc;
      track_acc = track_acc;
      alt_ellipsoid = alt_ellipsoid;
      h_acc = h_acc;
      v_acc = v_acc;
      reserved = reserved;
      h_dop = h_dop;
      v_dop = v_dop;
    }

abbrev pub battery_from : ℤ → ℤ → ℕ → ℕ → ℕ → Battery
battery_from voltage current capacity_used remaining id = record {
  voltage = voltage;
  current = current;
  capacity_used = capacity_used;
  remaining = remaining;
  id = id;
}

abbrev pub baro_altitude_from : ℕ → ℤ → BaroAltitude
baro_altitude_from altitude_packed vertical_speed_packed = record {
  altitude_packed = altitude_packed;
  vertical_speed_packed = vertical_speed_packed;
}

-- ---- Records that are made of a slice

-- sixteen channels, or a refusal
unfoldable pub sixteen_image : List ℕ → Image
sixteen_image cs = when eqb (length cs) channels_count then channels_image (record { 0 = cs }) else refused InvalidPayloadLength

-- where there is no record, a bad address is refused first
abbrev pub refused_for : ℕ → Refusal → Written
refused_for dest r = when listed dest then Err r else Err BadAddress
