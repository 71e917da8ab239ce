-- The editions of document 02 (request 06), and by number. There is one today, reld's: 0, and every other number too. Assumes nothing.
use Rattle.std.specs.Prelude.{ℕ, zero, suc}
use Rattle.numbers.specs.declared.Edition.{Edition}
use Rattle.numbers.specs.declared.Edition.TheVariants.{Reld}

abbrev pub reld : Edition
reld = Reld

abbrev pub edition_by : ℕ → Edition
edition_by zero = Reld
edition_by (suc n) = Reld
