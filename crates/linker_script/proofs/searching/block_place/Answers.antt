-- `block_place` meets its contract. Assumes nothing.
use Rattle.linker_script.proofs.Blocks.{block_place, zeros_fit}
use Rattle.linker_script.proofs.searching.block_place.Goals as goal

pub overflow_cast-result : goal.overflow_cast-result
overflow_cast-result c = search zeros_fit

pub returns : goal.returns
returns c =
    let place = block_place c.requires c.eight_bits-low.ensures.1 c.eight_bits-high.ensures.1 in
    (place.here, place.none)
