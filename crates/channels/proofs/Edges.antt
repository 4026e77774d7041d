-- Every edge of the table is written and read as the table says.
-- Assumes nothing.
use mathlib.Core.Path.{◌≡◌, refl}
use mathlib.Core.List.{map}
use Rattle.base.specs.First.{first_where}
use Rattle.writing.specs.Writing.{bytes}
use Rattle.layout.specs.Decoded.{record_row}
use Rattle.channels.specs.Digits.{number, digits}
use Rattle.channels.specs.Channels.{channels_read, channels_image}
use Rattle.channels.specs.Edges.{Edge, edges}

pub edges_written : map (λ (e : Edge). channels_image e.channels) edges ≡ map (λ (e : Edge). bytes e.gives) edges
unfolding number digits first_where channels_image
edges_written = refl

pub edges_read : map (λ (e : Edge). channels_read e.gives) edges ≡ map (λ (e : Edge). (record_row, e.channels)) edges
unfolding number digits channels_read
edges_read = refl
