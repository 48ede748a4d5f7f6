-- `linear_maps::maps::image` meets its contract: the entries are those that the definition names. Assumes nothing.
use mathlib.Core.Path.{refl}
use Rattle.definitions.specs.Polynomial.{◌⊕◌}
use Rattle.linear_maps.specs.Maps.{image_of}
use Rattle.linear_maps.proofs.maps.image.Goals as goal

pub returns : goal.returns
unfolding image_of ◌⊕◌
returns c = refl
