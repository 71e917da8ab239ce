-- `rust_why` meets its contract, by the laws of Tellings. Assumes nothing.
use Rattle.lookups.specs.Lookups.{listed_as}
use Rattle.book.specs.Sanity.{bare_star}
use Rattle.reasons.proofs.Tellings.{first_asks, rust-listed, rust_none, rust-star}
use Rattle.reasons.proofs.telling.rust_why.Goals as goal

pub line_reason-requires : goal.line_reason-requires
line_reason-requires c = first_asks (listed_as _) _ _ _ _ _ c.requires.0 _ c.first_listed.ensures _ c.in-Some.is c.requires.1

pub line_reason-requires-in-Some-first_star : goal.line_reason-requires-in-Some-first_star
line_reason-requires-in-Some-first_star c =
    first_asks bare_star _ _ _ _ _ c.requires.0 _ c.first_star.ensures _ c.in-Some-first_star.is c.requires.1

pub returns-in-Some : goal.returns-in-Some
returns-in-Some c = search rust-listed

pub returns-in-Some-first_star : goal.returns-in-Some-first_star
returns-in-Some-first_star c = search rust-star

pub returns-in-None-first_star : goal.returns-in-None-first_star
returns-in-None-first_star c = search rust_none
