-- Both sides of each edge, computed (RULES 9.2).
-- Assumes nothing.
use mathlib.Core.Path.{◌≡◌, refl}
use mathlib.Core.List.{[], ◌∷◌}
use Rattle.groups.specs.Groups.{groups_within, groups}
use Rattle.groups.specs.Reading.{further, valued, final, step, unfinished, ends, malformed, run, read}

-- 127 has one group, 128 has two: 80 01. 300 is AC 02.
pub one_group_at_127 : groups 127 ≡ 0x7F ∷ []
unfolding groups groups_within
one_group_at_127 = refl

pub two_groups_at_128 : groups 128 ≡ 0x80 ∷ 0x01 ∷ []
unfolding groups groups_within
two_groups_at_128 = refl

pub groups_of_300 : groups 300 ≡ 0xAC ∷ 0x02 ∷ []
unfolding groups groups_within
groups_of_300 = refl

-- 80 00 is not the shortest form of 0
pub not_shortest : read 300 (0x80 ∷ 0x00 ∷ []) ≡ malformed []
unfolding run step final valued further
not_shortest = refl

-- AC 02 up to 300, and up to 299; AC alone is unfinished
pub at_the_greatest : read 300 (0xAC ∷ 0x02 ∷ 0x55 ∷ []) ≡ ends 300 (0x55 ∷ [])
unfolding run step final valued further
at_the_greatest = refl

pub above_the_greatest : read 299 (0xAC ∷ 0x02 ∷ 0x55 ∷ []) ≡ malformed (0x55 ∷ [])
unfolding run step final valued further
above_the_greatest = refl

pub one_byte_lacks : read 300 (0xAC ∷ []) ≡ unfinished 44 128
unfolding run step final valued further
one_byte_lacks = refl

-- up to 127 a byte that says that another follows is malformed at once
pub too_many_groups : read 127 (0x80 ∷ []) ≡ malformed []
unfolding run step final valued further
too_many_groups = refl
