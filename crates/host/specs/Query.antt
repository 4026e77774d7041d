-- The number that `crsf_header_of` answers for each kind of header.
-- Assumes nothing.
use Rattle.std.specs.Prelude.{ℕ}
use Rattle.packets.specs.declared.Header.{Header}
use Rattle.packets.specs.declared.Header.TheVariants.{Short, Extended, Unlisted}

unfoldable pub header_number : Header → ℕ
header_number Unlisted = 0
header_number Short = 1
header_number Extended = 2
