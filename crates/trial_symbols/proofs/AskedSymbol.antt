-- The exits of `add_symbol`, and what `add_lines` asks of it. The Bool that is named x is whether the buffers hold a book, and the code asked whether they do
-- not. Assumes nothing.
use Prim.Native.Nat.{ℕ, ◌≤◌, ◌<◌}
use mathlib.Core.Path.{◌≡◌, sym, ◌∙◌}
use mathlib.Core.List.{List}
use mathlib.Core.Bool.{Bool, true, false, not}
use native.Mathlib.Omega.{arith}
use borrow.Author.Tests.{eq-eqb, le-ltb, lt-ltb, ne_eqb, not-false}
use lib.Dec.{eqb}
use lib.ListN.{length}
use Rattle.numbers.specs.Editions.{reld}
use Rattle.numbers.specs.Limits.{token_limit}
use Rattle.numbers.specs.Refusals.{no_book, too_long, wrong_kind}
use Rattle.lists.proofs.Tests.{both}
use Rattle.reading_cursors.specs.declared.places.Place.{Place}
use Rattle.reading.specs.Events.{reading}
use Rattle.book.specs.declared.Counts.{Counts}
use Rattle.book.specs.Books.{export}
use Rattle.book.specs.Layout.{Buffers}
use Rattle.book.specs.Sanity.{nodes_good, sane}
use Rattle.book.specs.View.{book_of, holds, laid, view}
use Rattle.book.proofs.Asking.{Held, asked-held, asked_none}
use Rattle.std.specs.Prelude.{Result, Err}
use Rattle.trial.specs.Changes.{Answers, Makes}
use Rattle.trial.specs.Symbols.{add_reading, symbol_asked, symbol_place}
use Rattle.trial.proofs.AddedLines.{some_node}
use Rattle.trial.proofs.Answers.{refusal_answers}

-- ---- r is answered, and b' left
abbrev pub Adds : Counts → Buffers → List ℕ → Bool → Result Counts ℕ → Buffers → Type 0
Adds c b s bare = Answers c b (λ b w. symbol_asked b w s bare)

-- the buffers hold an export list
pub record Listed (c : Counts) (b : Buffers) : Type 0 where
  pub held : Held c b
  pub laid : laid c b ≡ true
  pub node : 0 < c.nodes
  pub kind : c.kind ≡ export

module _ (c : Counts) (b : Buffers) (x : Bool) (e : x ≡ holds c b) where
  pub symbol-no_book : (s : List ℕ) (bare : Bool) → not x ≡ true → Adds c b s bare (Err no_book) b
  unfolding symbol_asked
  symbol-no_book s bare h = refusal_answers b _ no_book (rw (asked_none c b x e h))

  module _ (h : not x ≡ false) where
    pub symbol-kind : (s : List ℕ) (bare : Bool) → (c.kind ≡ export → ⊥) → Adds c b s bare (Err wrong_kind) b
    unfolding symbol_asked book_of
    symbol-kind s bare k = refusal_answers b _ wrong_kind (rw ((asked-held c b x e h).viewed, ne_eqb c.kind export k))

    pub symbol-listed : c.kind ≡ export → Listed c b
    unfolding holds sane
    symbol-listed k =
        let g = both (laid c b) _ (sym e ∙ not-false x h) in
        let a = some_node (book_of c b).nodes (both (nodes_good (book_of c b).nodes) _ g.1).0 in
        let held = asked-held c b x e h in
        record { held = held; laid = g.0; node = omega (arith, a, held.count); kind = k }

module _ {c : Counts} {b : Buffers} (h : Listed c b) where
  pub lines-asks : (laid c b ≡ true) × (0 < c.nodes) × (c.kind ≡ export)
  lines-asks = (h.laid, h.node, h.kind)

  module _ (s : List ℕ) (bare : Bool) where
    pub symbol-long : token_limit < length s → Adds c b s bare (Err too_long) b
    unfolding symbol_asked book_of
    symbol-long f = refusal_answers b _ too_long (rw (h.held.viewed, eq-eqb c.kind export h.kind, lt-ltb token_limit (length s) f))

    kind-held : eqb (book_of c b).kind export ≡ true
    unfolding book_of
    kind-held = eq-eqb c.kind export h.kind

    pub symbol-added : length s ≤ token_limit → (place : Place) → place ≡ symbol_place bare → (r : Result Counts ℕ) (b' : Buffers)
        → Makes c b (λ b w. add_reading b s w (reading reld place s)) r b' → Adds c b s bare r b'
    unfolding symbol_asked
    symbol-added f place z r b' t =
        let o : symbol_asked b (view c b) s bare ≡ add_reading b s (book_of c b) (reading reld place s)
        = rw (h.held.viewed, kind-held, le-ltb token_limit (length s) f, z) in
        rw o t
