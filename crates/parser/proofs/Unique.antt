-- Each public function's promise leaves one answer. Of a call it is what the call shows: what is said, how many bytes were taken, which are held;
-- where the held bytes stand, and the bytes beside, is the exception of RULES 15. Assumes nothing.
use mathlib.Core.Path.{◌≡◌, ap₂}
use mathlib.Core.List.{List}
use Prim.Native.Nat.{ℕ}
use lib.ListN.{length}
use Rattle.reading.specs.Reading.{limit}
use Rattle.base.proofs.Unique.{OneAnswer, same}
use Rattle.numbered.specs.Seen.{SeenAt}
use Rattle.numbered.proofs.Unique.{one_seen_at}
use Rattle.parser.specs.declared.CrsfParser.{CrsfParser}
use Rattle.parser.specs.declared.Stepped.{Stepped}
use Rattle.parser.specs.Parser.{seen_of, Nexts}
use Rattle.parser.proofs.new.Reads as new
use Rattle.parser.proofs.reset.Reads as reset
use Rattle.parser.proofs.held_len.Reads as held-len
use Rattle.parser.proofs.position.Reads as position
use Rattle.parser.proofs.next_raw_packet.Reads as next-raw-packet

pub new_one : OneAnswer {Seen = CrsfParser} new.Post (λ κs r s. r)
new_one κs a r r' s s' = same

pub reset_one : OneAnswer {Seen = CrsfParser} reset.Post (λ κs r s. r)
reset_one κs a r r' s s' = same

pub held_len_one : OneAnswer {Seen = ℕ} held-len.Post (λ κs r s. r)
held_len_one κs a r r' s s' = same

pub position_one : OneAnswer {Seen = ℕ} position.Post (λ κs r s. r)
position_one κs a r r' s s' = same

-- of a call: what is said, a frame's bytes, how many bytes were taken, how many and which are held, both positions, and of a refused state all
pub seen_once : (p : CrsfParser) (input : List ℕ) {r r' : Stepped} → length p.buffer ≡ limit → Nexts p input r → Nexts p input r' → seen_of r ≡ seen_of r'
seen_once p input full a b =
    ap₂ (λ (x : SeenAt) (y : ℕ). (x, y)) (one_seen_at limit p.buffer p.start p.end p.position input full a.steps b.steps)
    (same a.began b.began)

pub next_raw_packet_one : (κs : _) (a : _) (r r' : _) (s s' : _) → next-raw-packet.Post κs a r s → next-raw-packet.Post κs a r' s'
    → length a.0.buffer ≡ limit → seen_of r ≡ seen_of r'
next_raw_packet_one κs a r r' s s' p q full = seen_once a.0 a.1.0.now full p q
