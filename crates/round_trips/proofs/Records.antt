-- Each record through its frame, in a line: under the conditions of RULES 10.11 it comes back.
-- Assumes nothing.
use Rattle.std.specs.Prelude.{Ok}
use mathlib.Core.Path.{◌≡◌, refl, sym, ap, ◌∙◌}
use mathlib.Core.Bool.{true}
use mathlib.Core.List.{List, [], ◌∷◌, append-nil}
use Prim.Native.Nat.{ℕ, ◌+◌, ◌*◌, ◌^◌, ◌≤◌, ◌<◌}
use native.Mathlib.Omega.{arith}
use lib.Dec.{lit≤, lit<}
use lib.IntN.{ℤ, pos}
use lib.ListN.{length, get_or, take}
use mir.Syntax.{w16}
use mir.Val.{SFits}
use Rattle.numbers.specs.TwosComplement.{InRange}
use Rattle.packets.specs.Listed.{listed}
use Rattle.reading.specs.Answer.{Frame}
use Rattle.reading.specs.Reading.{limit, reading}
use Rattle.reading.specs.Frame.{frame}
use Rattle.writing.specs.Writing.{bytes, written_row, write_of}
use Rattle.writing.proofs.Left.{WroteBytes, wrote_bytes, at_front}
use Rattle.view.specs.View.{payload_of}
use Rattle.layout.specs.Layout.{HoldsAll, record_bytes}
use Rattle.layout.specs.Decoded.{record_row}
use Rattle.positions.specs.Gps.{gps_type, gps_layout, gps_values, gps_decoded, gps_read, gps_image}
use Rattle.positions.specs.GpsExtended.{gps_extended_type, gps_extended_layout, gps_extended_values, gps_extended_decoded, gps_extended_read, gps_extended_image}
use Rattle.positions.specs.declared.gps.Gps.{Gps}
use Rattle.positions.specs.declared.gps_extended.GpsExtended.{GpsExtended}
use Rattle.positions.proofs.Laws.{gps_long, gps_read_written, gps_extended_long, gps_extended_read_written}
use Rattle.records.specs.LinkStatistics.{link_statistics_type, link_statistics_layout, link_statistics_values, link_statistics_decoded, link_statistics_read, link_statistics_image}
use Rattle.records.specs.Battery.{battery_type, battery_values, battery_decoded, battery_read, battery_image}
use Rattle.records.specs.BaroAltitude.{baro_altitude_type, baro_altitude_layout, baro_altitude_values, baro_altitude_decoded, baro_altitude_read, baro_altitude_image}
use Rattle.records.specs.declared.link_statistics.LinkStatistics.{LinkStatistics}
use Rattle.records.specs.declared.battery.Battery.{Battery}
use Rattle.records.specs.declared.baro_altitude.BaroAltitude.{BaroAltitude}
use Rattle.records.proofs.Laws.{link_statistics_long, link_statistics_read_written, baro_altitude_long, baro_altitude_read_written}
use Rattle.records.proofs.BatteryLaws.{IsBattery, battery_few, battery_read_written}
use Rattle.series.specs.Series.{Kind, Counted, counted_made, counted_read, series_bytes, counted_image, new_image}
use Rattle.series.specs.Rpm.{rpm_type, rpm_kind, rpm_of, rpm_counted, rpm_made, rpm_read, rpm_image}
use Rattle.series.specs.Temp.{temp_type, temp_kind, temp_of, temp_counted, temp_made, temp_read, temp_image}
use Rattle.series.specs.Voltages.{voltages_type, voltages_kind, voltages_of, voltages_counted, voltages_made, voltages_read, voltages_image}
use Rattle.series.specs.declared.rpm.Rpm.{Rpm}
use Rattle.series.specs.declared.temp.Temp.{Temp}
use Rattle.series.specs.declared.voltages.Voltages.{Voltages}
use Rattle.series.proofs.Values.{Sound}
use Rattle.series.proofs.WriteLaws.{image_bytes, image_size, new_image_lem, new_size}
use Rattle.series.proofs.SeriesLaws.{Whole, counted_read_written, made_read_written}
use Rattle.series.proofs.SoundKinds.{i16_fits, rpm_sound, temp_sound, voltages_sound}
use Rattle.channels.specs.Channels.{channels_type, channel_bytes, channels_read, channels_image}
use Rattle.channels.specs.Digits.{Below}
use Rattle.channels.specs.declared.RcChannelsPacked.{RcChannelsPacked}
use Rattle.channels.proofs.Laws.{channels_image_lem, channels_length, channels_read_written}
use Rattle.frames.specs.Frames.{framed, most_payload}
use Rattle.frames.proofs.Laws.{FrameOf, frame_of_lem}
use Rattle.round_trips.specs.ComesBack.{ComesBack}
use Rattle.round_trips.proofs.Frames.{payload_framed, one_frame, comes_back}

module _ (dest : ℕ) (address : listed dest ≡ true) where
  pub gps_comes_back : (x : Gps) → HoldsAll gps_layout (gps_values x) → ComesBack (framed dest gps_type (gps_image x)) gps_read (gps_decoded (Ok x))
  gps_comes_back x h =
      let p : List ℕ = record_bytes gps_layout (gps_values x) in
      comes_back dest gps_type address (gps_image x) p refl (omega (arith, gps_long x)) gps_read (gps_decoded (Ok x))
      (ap gps_read (sym (append-nil p)) ∙ sym (gps_read_written x [] h))

  pub gps_extended_comes_back : (x : GpsExtended) → HoldsAll gps_extended_layout (gps_extended_values x)
      → ComesBack (framed dest gps_extended_type (gps_extended_image x)) gps_extended_read (gps_extended_decoded (Ok x))
  gps_extended_comes_back x h =
      let p : List ℕ = record_bytes gps_extended_layout (gps_extended_values x) in
      comes_back dest gps_extended_type address (gps_extended_image x) p refl (omega (arith, gps_extended_long x)) gps_extended_read (gps_extended_decoded (Ok x))
      (ap gps_extended_read (sym (append-nil p)) ∙ sym (gps_extended_read_written x [] h))

  pub link_statistics_comes_back : (x : LinkStatistics) → HoldsAll link_statistics_layout (link_statistics_values x)
      → ComesBack (framed dest link_statistics_type (link_statistics_image x)) link_statistics_read (link_statistics_decoded (Ok x))
  link_statistics_comes_back x h =
      let p : List ℕ = record_bytes link_statistics_layout (link_statistics_values x) in
      comes_back dest link_statistics_type address (link_statistics_image x) p refl (omega (arith, link_statistics_long x)) link_statistics_read (link_statistics_decoded (Ok x))
      (ap link_statistics_read (sym (append-nil p)) ∙ sym (link_statistics_read_written x [] h))

  pub baro_altitude_comes_back : (x : BaroAltitude) → HoldsAll baro_altitude_layout (baro_altitude_values x)
      → ComesBack (framed dest baro_altitude_type (baro_altitude_image x)) baro_altitude_read (baro_altitude_decoded (Ok x))
  baro_altitude_comes_back x h =
      let p : List ℕ = record_bytes baro_altitude_layout (baro_altitude_values x) in
      comes_back dest baro_altitude_type address (baro_altitude_image x) p refl (omega (arith, baro_altitude_long x)) baro_altitude_read (baro_altitude_decoded (Ok x))
      (ap baro_altitude_read (sym (append-nil p)) ∙ sym (baro_altitude_read_written x [] h))

  -- whatever there is to write of a battery
  pub battery_comes_back : (x : Battery) (payload : List ℕ) → IsBattery x → battery_image x ≡ bytes payload
      → ComesBack (framed dest battery_type (battery_image x)) battery_read (battery_decoded (Ok x))
  battery_comes_back x payload h e =
      comes_back dest battery_type address (battery_image x) payload e (omega (arith, battery_few x payload e)) battery_read (battery_decoded (Ok x))
      (battery_read_written x payload h e)

  -- a series comes back as `of` makes a record of it
  module _ {A R : Type 0} (k : Kind A) {Fits : A → Type 0} (sound : Sound k Fits) (fits : 1 + k.most * k.width ≤ most_payload) where
    series_comes_back : (packetType : ℕ) (of : List ℕ × Counted A → List ℕ × R) (h : Counted A) → Whole k sound h
        → ComesBack (framed dest packetType (counted_image k h)) (λ payload. of (counted_read k payload)) (of (record_row, h))
    series_comes_back packetType of h w =
        let p : List ℕ = series_bytes k h.id h.places h.count in
        let e = image_bytes k h.id h.places h.count w.some w.few in
        let size = image_size k sound h.id h.places h.count p e in
        comes_back dest packetType address (counted_image k h) p e (omega arith) (λ payload. of (counted_read k payload)) (of (record_row, h))
        (ap of (counted_read_written k sound h p w e))

    -- and one newly made comes back as it was made
    new_series_comes_back : (packetType : ℕ) (of : List ℕ × Counted A → List ℕ × R) (id : ℕ) (vs : List A) → id < 256 → 1 ≤ length vs → length vs ≤ k.most
        → ((i : ℕ) → i < length vs → Fits (get_or vs i k.empty))
        → ComesBack (framed dest packetType (new_image k id vs)) (λ payload. of (counted_read k payload)) (of (counted_made k id vs))
    new_series_comes_back packetType of id vs byte some few values =
        let p : List ℕ = series_bytes k id vs (length vs) in
        let e = new_image_lem k id vs ∙ image_bytes k id vs (length vs) some few in
        let size = new_size k sound id vs p e in
        comes_back dest packetType address (new_image k id vs) p e (omega arith) (λ payload. of (counted_read k payload)) (of (counted_made k id vs))
        (ap of (made_read_written k sound id vs p byte some few values e))

  pub rpm_comes_back : (x : Rpm) → Whole rpm_kind rpm_sound (rpm_counted x) → ComesBack (framed dest rpm_type (rpm_image x)) rpm_read (record_row, x)
  rpm_comes_back x = series_comes_back rpm_kind rpm_sound (lit≤ tt) rpm_type rpm_of (rpm_counted x)

  pub temp_comes_back : (x : Temp) → Whole temp_kind temp_sound (temp_counted x) → ComesBack (framed dest temp_type (temp_image x)) temp_read (record_row, x)
  temp_comes_back x = series_comes_back temp_kind temp_sound (lit≤ tt) temp_type temp_of (temp_counted x)

  pub voltages_come_back : (x : Voltages) → Whole voltages_kind voltages_sound (voltages_counted x)
      → ComesBack (framed dest voltages_type (voltages_image x)) voltages_read (record_row, x)
  voltages_come_back x = series_comes_back voltages_kind voltages_sound (lit≤ tt) voltages_type voltages_of (voltages_counted x)

  -- as a host writes them, straight from values
  pub rpm_values_come_back : (id : ℕ) (vs : List ℤ) → id < 256 → 1 ≤ length vs → length vs ≤ 19 → ((i : ℕ) → i < length vs → InRange 3 (get_or vs i (pos 0)))
      → ComesBack (framed dest rpm_type (new_image rpm_kind id vs)) rpm_read (rpm_made id vs)
  rpm_values_come_back = new_series_comes_back rpm_kind rpm_sound (lit≤ tt) rpm_type rpm_of

  pub temp_values_come_back : (id : ℕ) (vs : List ℤ) → id < 256 → 1 ≤ length vs → length vs ≤ 20 → ((i : ℕ) → i < length vs → InRange 2 (get_or vs i (pos 0)))
      → ComesBack (framed dest temp_type (new_image temp_kind id vs)) temp_read (temp_made id vs)
  temp_values_come_back = new_series_comes_back temp_kind temp_sound (lit≤ tt) temp_type temp_of

  pub voltages_values_come_back : (id : ℕ) (vs : List ℕ) → id < 256 → 1 ≤ length vs → length vs ≤ 29 → ((i : ℕ) → i < length vs → get_or vs i 0 < 256 ^ 2)
      → ComesBack (framed dest voltages_type (new_image voltages_kind id vs)) voltages_read (voltages_made id vs)
  voltages_values_come_back = new_series_comes_back voltages_kind voltages_sound (lit≤ tt) voltages_type voltages_of

  pub channels_come_back : (x : RcChannelsPacked) → length x.0 ≡ 16 → Below 11 x.0
      → ComesBack (framed dest channels_type (channels_image x)) channels_read (record_row, x)
  channels_come_back x n h =
      let e = channels_image_lem x n h in
      let p : List ℕ = channel_bytes x.0 in
      comes_back dest channels_type address (channels_image x) p e (omega (arith, channels_length x p e)) channels_read (record_row, x)
      (ap channels_read (sym (append-nil p)) ∙ channels_read_written x p [] n e)

-- ---- WHATEVER WAS WRITTEN of a battery is read back, whatever the capacity and the address

-- the numbers of a struct of two i16, a u32 and two u8 are such
pub is_battery : (x : Battery) → SFits w16 x.voltage → SFits w16 x.current → x.capacity_used < 2 ^ 32 → x.remaining < 2 ^ 8 → x.id < 2 ^ 8 → IsBattery x
unfolding battery_values
is_battery x voltage current capacity remaining id = (
  (lit< tt, i16_fits x.voltage voltage),
  (
    (lit< tt, i16_fits x.current current),
    ((refl, capacity), ((refl, remaining), ((refl, id), tt))),
  ),
)

-- a call of the frame's writer that says that it wrote n bytes
module _ (dest : ℕ) (x : Battery) (buffer : List ℕ) (n : ℕ) {after : List ℕ} (typed : IsBattery x)
    (call : (written_row (Ok n), after) ≡ write_of (framed dest battery_type (battery_image x)) buffer) where
  wrote : WroteBytes (framed dest battery_type (battery_image x)) buffer n after
  wrote = wrote_bytes (framed dest battery_type (battery_image x)) buffer n call

  made : FrameOf dest battery_type (battery_image x) wrote.written
  made = frame_of_lem dest battery_type (battery_image x) wrote.written wrote.is

  written_is : take n after ≡ frame dest (battery_type ∷ made.payload)
  written_is = at_front wrote.written buffer n wrote.left_so ∙ made.whole

  -- what it wrote is one frame ..
  pub battery_frame_read : reading limit (take n after) ≡ record { answers = Frame (take n after) ∷ []; tail = [] }
  battery_frame_read =
      rw written_is (one_frame dest battery_type made.payload made.address (omega (arith, battery_few x made.payload made.is)))

  -- .. and of that the payload is read as the battery
  pub battery_read_back : battery_read (payload_of (take n after)) ≡ battery_decoded (Ok x)
  battery_read_back =
      ap (λ (f : List ℕ). battery_read (payload_of f)) written_is
      ∙ ap battery_read (payload_framed dest battery_type made.payload)
      ∙ battery_read_written x made.payload typed made.is
