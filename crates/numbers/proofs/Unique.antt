-- Each public function's promise leaves one number, or one content of the buffer lent to be written: a line for each.
-- Assumes nothing.
use mathlib.Core.List.{List}
use Prim.Native.Nat.{ℕ}
use lib.IntN.{ℤ}
use Rattle.base.proofs.Unique.{OneAnswer, same}
use Rattle.numbers.proofs.get.Reads as get
use Rattle.numbers.proofs.get_u8.Reads as get-u8
use Rattle.numbers.proofs.get_u16.Reads as get-u16
use Rattle.numbers.proofs.get_u24.Reads as get-u24
use Rattle.numbers.proofs.get_u32.Reads as get-u32
use Rattle.numbers.proofs.get_u64.Reads as get-u64
use Rattle.numbers.proofs.get_signed.Reads as get-signed
use Rattle.numbers.proofs.get_i8.Reads as get-i8
use Rattle.numbers.proofs.get_i16.Reads as get-i16
use Rattle.numbers.proofs.get_i24.Reads as get-i24
use Rattle.numbers.proofs.get_i32.Reads as get-i32
use Rattle.numbers.proofs.put.Reads as put
use Rattle.numbers.proofs.put_u8.Reads as put-u8
use Rattle.numbers.proofs.put_u16.Reads as put-u16
use Rattle.numbers.proofs.put_u24.Reads as put-u24
use Rattle.numbers.proofs.put_u32.Reads as put-u32
use Rattle.numbers.proofs.put_u64.Reads as put-u64
use Rattle.numbers.proofs.put_signed.Reads as put-signed
use Rattle.numbers.proofs.put_i8.Reads as put-i8
use Rattle.numbers.proofs.put_i16.Reads as put-i16
use Rattle.numbers.proofs.put_i24.Reads as put-i24
use Rattle.numbers.proofs.put_i32.Reads as put-i32

-- ---- readers

pub get_one : OneAnswer {Seen = ℕ} get.Post (λ κs r s. r)
get_one κs a r r' s s' = same

pub get_u8_one : OneAnswer {Seen = ℕ} get-u8.Post (λ κs r s. r)
get_u8_one κs a r r' s s' = same

pub get_u16_one : OneAnswer {Seen = ℕ} get-u16.Post (λ κs r s. r)
get_u16_one κs a r r' s s' = same

pub get_u24_one : OneAnswer {Seen = ℕ} get-u24.Post (λ κs r s. r)
get_u24_one κs a r r' s s' = same

pub get_u32_one : OneAnswer {Seen = ℕ} get-u32.Post (λ κs r s. r)
get_u32_one κs a r r' s s' = same

pub get_u64_one : OneAnswer {Seen = ℕ} get-u64.Post (λ κs r s. r)
get_u64_one κs a r r' s s' = same

pub get_signed_one : OneAnswer {Seen = ℤ} get-signed.Post (λ κs r s. r)
get_signed_one κs a r r' s s' = same

pub get_i8_one : OneAnswer {Seen = ℤ} get-i8.Post (λ κs r s. r)
get_i8_one κs a r r' s s' = same

pub get_i16_one : OneAnswer {Seen = ℤ} get-i16.Post (λ κs r s. r)
get_i16_one κs a r r' s s' = same

pub get_i24_one : OneAnswer {Seen = ℤ} get-i24.Post (λ κs r s. r)
get_i24_one κs a r r' s s' = same

pub get_i32_one : OneAnswer {Seen = ℤ} get-i32.Post (λ κs r s. r)
get_i32_one κs a r r' s s' = same

-- ---- writers: every byte of the buffer, those beside too

pub put_one : OneAnswer {Seen = List ℕ} put.Post (λ κs r s. s.0.now)
put_one κs a r r' s s' = same

pub put_u8_one : OneAnswer {Seen = List ℕ} put-u8.Post (λ κs r s. s.0.now)
put_u8_one κs a r r' s s' = same

pub put_u16_one : OneAnswer {Seen = List ℕ} put-u16.Post (λ κs r s. s.0.now)
put_u16_one κs a r r' s s' = same

pub put_u24_one : OneAnswer {Seen = List ℕ} put-u24.Post (λ κs r s. s.0.now)
put_u24_one κs a r r' s s' = same

pub put_u32_one : OneAnswer {Seen = List ℕ} put-u32.Post (λ κs r s. s.0.now)
put_u32_one κs a r r' s s' = same

pub put_u64_one : OneAnswer {Seen = List ℕ} put-u64.Post (λ κs r s. s.0.now)
put_u64_one κs a r r' s s' = same

pub put_signed_one : OneAnswer {Seen = List ℕ} put-signed.Post (λ κs r s. s.0.now)
put_signed_one κs a r r' s s' = same

pub put_i8_one : OneAnswer {Seen = List ℕ} put-i8.Post (λ κs r s. s.0.now)
put_i8_one κs a r r' s s' = same

pub put_i16_one : OneAnswer {Seen = List ℕ} put-i16.Post (λ κs r s. s.0.now)
put_i16_one κs a r r' s s' = same

pub put_i24_one : OneAnswer {Seen = List ℕ} put-i24.Post (λ κs r s. s.0.now)
put_i24_one κs a r r' s s' = same

pub put_i32_one : OneAnswer {Seen = List ℕ} put-i32.Post (λ κs r s. s.0.now)
put_i32_one κs a r r' s s' = same
