-- `kind_of` meets its contract. Assumes nothing.
use denote.Enum.Bare.{sameb}
use mathlib.Core.Path.{◌≡◌, refl, sym, ◌∙◌}
use Rattle.reading_cursors.specs.contracts.places.Place.{the_type}
use Rattle.reading_cursors.specs.declared.places.Place.{Place}
use Rattle.reading_cursors.specs.declared.places.Place.TheVariants as place
use Rattle.reading_cursors.specs.Places.{is_list}
use borrow.Author.Tests.{eq-eqb, ne_eqb, not-true, not-false}
use Rattle.book_opening.specs.Opening.{kind_of}
use Rattle.book_opening.proofs.events.kind_of.Goals as goal

-- what `==` says of the start of a list
list_test : (x : Place) → sameb the_type x place.AtList ≡ is_list x
list_test place.AtScript = refl
list_test place.AtNode = refl
list_test place.AtBody = refl
list_test place.InBody = refl
list_test place.InBodyExtern = refl
list_test place.InSole = refl
list_test place.InSoleExtern = refl
list_test place.AtList = refl
list_test place.InList = refl
list_test place.InListExtern = refl
list_test place.AtSymbol = refl
list_test place.InSymbolExtern = refl
list_test place.AtBare = refl
list_test place.InBareExtern = refl
list_test place.BehindSymbol = refl

pub returns-then-eq : goal.returns-then-eq
unfolding kind_of
returns-then-eq c = rw (sym (list_test c.args.place) ∙ sym c.eq.ensures ∙ c.if-eq.true)

pub returns-then-g-ne1 : goal.returns-then-g-ne1
unfolding kind_of
returns-then-g-ne1 c = rw (sym (list_test c.args.place) ∙ sym c.eq.ensures ∙ c.if-eq.false, ne_eqb _ _ c.if-g-ne1.true)

pub returns-then-not-g : goal.returns-then-not-g
unfolding kind_of
returns-then-not-g c =
    let g = c.args.g in
    rw (sym (list_test c.args.place) ∙ sym c.eq.ensures ∙ c.if-eq.false, eq-eqb _ _ c.if-g-ne1.false, not-true g.starred c.if-not-g.true)

pub returns-then-g : goal.returns-then-g
unfolding kind_of
returns-then-g c =
    let g = c.args.g in
    rw (sym (list_test c.args.place) ∙ sym c.eq.ensures ∙ c.if-eq.false, eq-eqb _ _ c.if-g-ne1.false, not-false g.starred c.if-not-g.false, c.if-g.true)

pub returns : goal.returns
unfolding kind_of
returns c =
    let g = c.args.g in
    rw (sym (list_test c.args.place) ∙ sym c.eq.ensures ∙ c.if-eq.false, eq-eqb _ _ c.if-g-ne1.false, not-false g.starred c.if-not-g.false, c.if-g.false)
