-- Each question of a lent book (src/lent_questions.rt, src/lent_why.rt) from what the library answered (x) and what was told of it. l is the counts that were lent, b the
-- buffers, and `out` the place of the value; c is the counts that the library was given. Assumes nothing.
use Prim.Native.Nat.{ℕ}
use mir.Val.{bool_byte}
use mathlib.Core.Path.{◌≡◌, refl, ap, ◌∙◌}
use mathlib.Core.List.{List}
use Rattle.std.specs.Prelude.{Option}
use Rattle.book.specs.declared.Counts.{Counts}
use Rattle.book.specs.Layout.{Buffers}
use Rattle.book.specs.View.{view}
use Rattle.ranking.specs.Matching.{Name}
use Rattle.std.specs.Prelude.{Bool, true, false, Result, Ok}
use Rattle.std.specs.Bool.{then_some}
use Rattle.std.specs.Borrow.{Bor}
use Rattle.numbers.specs.declared.Refusal.{Refusal}
use Rattle.numbers.specs.Saying.{refusal_of}
use Rattle.counting.specs.Questions.{count_value, counted, parent_count, version_count}
use Rattle.lookups.specs.Lookups.{LocalityAnswer, VersionAnswer, bytes_of, locality_asked, locality_value, version_asked, version_value, wanted_of}
use Rattle.export_list.specs.Membership.{contains_asked, membership_value}
use Rattle.reasons.specs.Why.{WhyAnswer, why_asked, why_numbers}
use Rattle.lookups.proofs.Asked.{as_told}
use Rattle.c_lending.specs.Calls.{Replies, RepliesWith, lent, lent_counts}
use Rattle.c_lending.proofs.Lending.{asked-lent, asked_lent_with}

-- whether a name is within, as a number
pub as_number : (b : Bool) → bool_byte b ≡ membership_value (Ok b)
as_number true = refl
as_number false = refl

module _ (l : List ℕ) (b : Buffers) (out : List ℕ) (c : Counts) (e : c ≡ lent_counts l) where
  pub versions-told : (x : Result ℕ Refusal) → x ≡ counted version_count (view c b) → (r : ℕ) (out' : List ℕ) → Replies refusal_of count_value x out r out'
      → Replies refusal_of count_value (counted version_count (lent l b)) out r out'
  versions-told = asked-lent refusal_of count_value (counted version_count) l b out c e

  pub parents-told : (x : Result ℕ Refusal) → x ≡ counted parent_count (view c b) → (r : ℕ) (out' : List ℕ) → Replies refusal_of count_value x out r out'
      → Replies refusal_of count_value (counted parent_count (lent l b)) out r out'
  parents-told = asked-lent refusal_of count_value (counted parent_count) l b out c e

  -- with a wanted version as C tells it
  pub version-told : (n : Name) (has : Bool) (w : Bor (List ℕ)) (o : Option (Bor (List ℕ))) → o ≡ then_some has w → (x : VersionAnswer)
      → x ≡ version_asked (view c b) n (bytes_of o) → (r : ℕ) (out' : List ℕ) → Replies refusal_of version_value x out r out'
      → Replies refusal_of version_value (version_asked (lent l b) n (wanted_of has w.now)) out r out'
  version-told n has w o f x a =
      asked-lent refusal_of version_value (λ u. version_asked u n (wanted_of has w.now)) l b out c e x
      (a ∙ ap (version_asked (view c b) n) (ap bytes_of f ∙ as_told has w))

  pub locality-told : (n : Name) (x : LocalityAnswer) → x ≡ locality_asked (view c b) n → (r : ℕ) (out' : List ℕ)
      → Replies refusal_of locality_value x out r out' → Replies refusal_of locality_value (locality_asked (lent l b) n) out r out'
  locality-told n = asked-lent refusal_of locality_value (λ w. locality_asked w n) l b out c e

  pub contains-told : (n : Name) (x : Result Bool Refusal) → x ≡ contains_asked (view c b) n → (r : ℕ) (out' : List ℕ)
      → Replies refusal_of membership_value x out r out' → Replies refusal_of membership_value (contains_asked (lent l b) n) out r out'
  contains-told n = asked-lent refusal_of membership_value (λ w. contains_asked w n) l b out c e

  pub why-told : (n : Name) (has : Bool) (w : Bor (List ℕ)) (o : Option (Bor (List ℕ))) → o ≡ then_some has w → (x : WhyAnswer)
      → x ≡ why_asked (view c b) n (bytes_of o) → (r : ℕ) (out' : List ℕ) → RepliesWith refusal_of why_numbers x out r out'
      → RepliesWith refusal_of why_numbers (why_asked (lent l b) n (wanted_of has w.now)) out r out'
  why-told n has w o f x a =
      asked_lent_with refusal_of why_numbers (λ u. why_asked u n (wanted_of has w.now)) l b out c e x
      (a ∙ ap (why_asked (view c b) n) (ap bytes_of f ∙ as_told has w))
