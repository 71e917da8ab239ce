-- The exits of the functions that take a line as a command: the tests that fail, and the one that holds. Assumes nothing.
use Prim.Native.Nat.{ℕ, ◌+◌}
use mathlib.Core.Path.{◌≡◌, refl, sym, ap, ◌∙◌}
use mathlib.Core.List.{List, [], ◌∷◌}
use mathlib.Core.Bool.{Bool, true, false, ◌&&◌}
use borrow.Author.Tests.{eq-eqb, ne_eqb, eqb-true, eqb-false}
use lib.Dec.{eqb}
use native.Mathlib.Omega.{arith}
use mir.Syntax.{w64}
use mir.Val.{Fits}
use lib.ListN.{length, get_or}
use Rattle.numbers.specs.Signs.{space}
use Rattle.linker_script.proofs.Searches.{byte_within}
use Rattle.desk_commands.specs.declared.parts.Numeral.{Numeral}
use Rattle.desk_commands.specs.Parts.{number_at}
use lib.Pointwise.{pointwise}
use Rattle.std.specs.List.{starts_with}
use Rattle.std.specs.Prelude.{Option, Some, None}
use Rattle.lists.specs.Same.{same}
use Rattle.lists.specs.Texts.{codes}
use Rattle.lists.proofs.SameLaws.{same_pointwise}
use Rattle.desk_commands.specs.declared.Command.{Command}
use Rattle.desk_commands.specs.declared.Command.TheVariants as command
use Rattle.desk_commands.specs.declared.Edit.TheVariants as edit
use Rattle.desk_commands.specs.declared.Question.TheVariants as question
use Rattle.desk_commands.specs.declared.Shown.TheVariants as shown
use Rattle.reading_tokens.specs.Tokens.{begins}
use Rattle.desk_commands.specs.Commands.{add_command, command_of, field_at, question_of, strike_command}

-- ---- what `starts_with` and `==` tell of a line
turned : (a b : ℕ) → eqb a b ≡ eqb b a
turned a b = go (eqb b a) refl
  where
    go : (v : Bool) → eqb b a ≡ v → eqb a b ≡ v
    go true e = eq-eqb a b (sym (eqb-true b a e))
    go false e = ne_eqb a b (λ f. eqb-false b a e (sym f))

starts_begins : (w l : List ℕ) → starts_with eqb l w ≡ begins w l
unfolding begins
starts_begins [] l = refl
starts_begins (x ∷ w) [] = refl
starts_begins (x ∷ w) (b ∷ l) = rw (turned x b) (ap (λ (v : Bool). eqb b x && v) (starts_begins w l))

begun : (w l : List ℕ) {t v : Bool} → t ≡ starts_with eqb l w → t ≡ v → begins w l ≡ v
begun w l e h = sym (starts_begins w l) ∙ sym e ∙ h

alike : (w l : List ℕ) {d : List ℕ} {t v : Bool} → d ≡ w → t ≡ pointwise eqb l d → t ≡ v → same l w ≡ v
alike w l f e h = sym (same_pointwise l w) ∙ rw (← f) (sym e ∙ h)

-- ---- a number with a blank behind it
module _ (l : List ℕ) (p : ℕ) {f : Option Numeral} (e : f ≡ number_at l p) where
  pub no_field : f ≡ None → None ≡ field_at l p
  unfolding field_at
  no_field h = rw (← e, h)

  module _ (n : Numeral) (h : f ≡ Some n) {b : ℕ} (g : b ≡ get_or l n.end 0) where
    pub no_blank : (b ≡ space → ⊥) → None ≡ field_at l p
    unfolding field_at
    no_blank k = rw (← e, h, ← g, ne_eqb b space k)

    pub is_field : b ≡ space → Some (record { value = n.value; end = n.end + 1 }) ≡ field_at l p
    unfolding field_at
    is_field k = rw (← e, h, ← g, eq-eqb b space k)

    -- a blank lies within
    pub blank-fits : b ≡ space → Fits w64 (length l) → Fits w64 (n.end + 1)
    blank-fits k m = omega (arith, byte_within l n.end (omega (arith, g, k)))

-- ---- `add NODE SECTION LANGUAGE TOKEN`
module _ (l : List ℕ) {f : Option Numeral} (e : f ≡ field_at l 4) where
  pub no_node : f ≡ None → None ≡ add_command l
  unfolding add_command codes
  no_node h = rw (← e, h)

  module _ (n : Numeral) (h : f ≡ Some n) {f₂ : Option Numeral} (e₂ : f₂ ≡ field_at l n.end) where
    pub no_section : f₂ ≡ None → None ≡ add_command l
    unfolding add_command codes
    no_section h₂ = rw (← e, h, ← e₂, h₂)

    module _ (n₂ : Numeral) (h₂ : f₂ ≡ Some n₂) {f₃ : Option Numeral} (e₃ : f₃ ≡ field_at l n₂.end) where
      pub no_language : f₃ ≡ None → None ≡ add_command l
      unfolding add_command codes
      no_language h₃ = rw (← e, h, ← e₂, h₂, ← e₃, h₃)

      pub is_addition : (n₃ : Numeral) → f₃ ≡ Some n₃ → Some (command.Edits (edit.Add n.value n₂.value n₃.value n₃.end)) ≡ add_command l
      unfolding add_command codes
      is_addition n₃ h₃ = rw (← e, h, ← e₂, h₂, ← e₃, h₃)

-- ---- `strike LINE`
module _ (l : List ℕ) {f : Option Numeral} (e : f ≡ number_at l 7) where
  pub no_line : f ≡ None → None ≡ strike_command l
  unfolding strike_command codes
  no_line h = rw (← e, h)

  module _ (n : Numeral) (h : f ≡ Some n) where
    pub is_striking : n.end ≡ length l → Some (command.Edits (edit.Strike n.value)) ≡ strike_command l
    unfolding strike_command codes
    is_striking k = rw (← e, h, eq-eqb n.end (length l) k)

    pub more_behind : (n.end ≡ length l → ⊥) → None ≡ strike_command l
    unfolding strike_command codes
    more_behind k = rw (← e, h, ne_eqb n.end (length l) k)

-- ---- a question: the tests that fail, and the one that holds
module _ (l : List ℕ) (t : Bool) (e : t ≡ starts_with eqb l (codes "ask ")) where
  pub is_ask : t ≡ true → Some (command.Asks (question.Ask 4)) ≡ question_of l
  unfolding question_of codes
  is_ask h = rw (begun (codes "ask ") l e h)

  module _ (m₀ : t ≡ false) (t₁ : Bool) (e₁ : t₁ ≡ starts_with eqb l (codes "why ")) where
    no_ask : begins (codes "ask ") l ≡ false
    no_ask = begun (codes "ask ") l e m₀

    pub is_why : t₁ ≡ true → Some (command.Asks (question.Why 4)) ≡ question_of l
    unfolding question_of codes
    is_why h = rw (no_ask, begun (codes "why ") l e₁ h)

    module _ (m : t₁ ≡ false) (t₂ : Bool) (d₂ : List ℕ) (f₂ : d₂ ≡ codes "counts") (e₂ : t₂ ≡ pointwise eqb l d₂) where
      no_why : begins (codes "why ") l ≡ false
      no_why = begun (codes "why ") l e₁ m

      pub is_counts : t₂ ≡ true → Some (command.Asks (question.Show shown.Counts)) ≡ question_of l
      unfolding question_of codes
      is_counts h = rw (no_ask, no_why, alike (codes "counts") l f₂ e₂ h)

      module _ (m₂ : t₂ ≡ false) (t₃ : Bool) (d₃ : List ℕ) (f₃ : d₃ ≡ codes "lines") (e₃ : t₃ ≡ pointwise eqb l d₃) where
        no_counts : same l (codes "counts") ≡ false
        no_counts = alike (codes "counts") l f₂ e₂ m₂

        pub is_lines : t₃ ≡ true → Some (command.Asks (question.Show shown.Lines)) ≡ question_of l
        unfolding question_of codes
        is_lines h = rw (no_ask, no_why, no_counts, alike (codes "lines") l f₃ e₃ h)

        module _ (m₃ : t₃ ≡ false) (t₄ : Bool) (d₄ : List ℕ) (f₄ : d₄ ≡ codes "dump") (e₄ : t₄ ≡ pointwise eqb l d₄) where
          no_lines : same l (codes "lines") ≡ false
          no_lines = alike (codes "lines") l f₃ e₃ m₃

          pub is_dump : t₄ ≡ true → Some (command.Asks (question.Show shown.Dump)) ≡ question_of l
          unfolding question_of codes
          is_dump h = rw (no_ask, no_why, no_counts, no_lines, alike (codes "dump") l f₄ e₄ h)

          pub is_unknown : t₄ ≡ false → None ≡ question_of l
          unfolding question_of codes
          is_unknown h = rw (no_ask, no_why, no_counts, no_lines, alike (codes "dump") l f₄ e₄ h)

-- ---- a line: the tests that fail, and the one that holds
module _ (l : List ℕ) (t : Bool) (e : t ≡ starts_with eqb l (codes "add ")) where
  pub is_add : t ≡ true → (r : Option Command) → r ≡ add_command l → r ≡ command_of l
  unfolding command_of codes
  is_add h r f = rw (begun (codes "add ") l e h) f

  module _ (n : t ≡ false) (t₂ : Bool) (e₂ : t₂ ≡ starts_with eqb l (codes "strike ")) where
    n₁ : begins (codes "add ") l ≡ false
    n₁ = begun (codes "add ") l e n

    pub is_strike : t₂ ≡ true → (r : Option Command) → r ≡ strike_command l → r ≡ command_of l
    unfolding command_of codes
    is_strike h r f = rw (n₁, begun (codes "strike ") l e₂ h) f

    module _ (m₂ : t₂ ≡ false) (t₃ : Bool) (d₃ : List ℕ) (f₃ : d₃ ≡ codes "undo") (e₃ : t₃ ≡ pointwise eqb l d₃) where
      n₂ : begins (codes "strike ") l ≡ false
      n₂ = begun (codes "strike ") l e₂ m₂

      pub is_undo : t₃ ≡ true → Some (command.Edits edit.Undo) ≡ command_of l
      unfolding command_of codes
      is_undo h = rw (n₁, n₂, alike (codes "undo") l f₃ e₃ h)

      module _ (m₃ : t₃ ≡ false) (t₄ : Bool) (d₄ : List ℕ) (f₄ : d₄ ≡ codes "settle") (e₄ : t₄ ≡ pointwise eqb l d₄) where
        n₃ : same l (codes "undo") ≡ false
        n₃ = alike (codes "undo") l f₃ e₃ m₃

        pub is_settle : t₄ ≡ true → Some (command.Edits edit.Settle) ≡ command_of l
        unfolding command_of codes
        is_settle h = rw (n₁, n₂, n₃, alike (codes "settle") l f₄ e₄ h)

        module _ (m₄ : t₄ ≡ false) (t₅ : Bool) (e₅ : t₅ ≡ starts_with eqb l (codes "symbol ")) where
          n₄ : same l (codes "settle") ≡ false
          n₄ = alike (codes "settle") l f₄ e₄ m₄

          pub is_symbol : t₅ ≡ true → Some (command.Edits (edit.Symbol 7 false)) ≡ command_of l
          unfolding command_of codes
          is_symbol h = rw (n₁, n₂, n₃, n₄, begun (codes "symbol ") l e₅ h)

          module _ (m₅ : t₅ ≡ false) (t₆ : Bool) (e₆ : t₆ ≡ starts_with eqb l (codes "symbol! ")) where
            n₅ : begins (codes "symbol ") l ≡ false
            n₅ = begun (codes "symbol ") l e₅ m₅

            pub is_bare_symbol : t₆ ≡ true → Some (command.Edits (edit.Symbol 8 true)) ≡ command_of l
            unfolding command_of codes
            is_bare_symbol h = rw (n₁, n₂, n₃, n₄, n₅, begun (codes "symbol! ") l e₆ h)

            pub is_question : t₆ ≡ false → (r : Option Command) → r ≡ question_of l → r ≡ command_of l
            unfolding command_of codes
            is_question h r f = rw (n₁, n₂, n₃, n₄, n₅, begun (codes "symbol! ") l e₆ h) f
