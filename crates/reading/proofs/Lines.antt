-- The tokens of a reading stand in the text one_more behind the other (specs/Lines.antt), since each lies between where the reading stood and where it goes on.
-- Assumes nothing.
use mathlib.Core.Bool.{true≢false}
use Prim.Native.Nat.{ℕ, zero, suc, ◌≤◌, ◌<◌}
use mathlib.Core.Path.{◌≡◌, refl}
use mathlib.Core.List.{List, ◌∷◌}
use native.Mathlib.Omega.{arith}
use lib.ListN.{length}
use Rattle.std.specs.Prelude.{Some, None, Ok, Err, false}
use Rattle.reading_cursors.specs.declared.places.Place.TheVariants as place
use Rattle.reading_cursors.specs.declared.places.Place.{Place}
use Rattle.reading_cursors.specs.declared.Cursor.{Cursor}
use Rattle.reading_cursors.specs.declared.Event.{Event}
use Rattle.reading_cursors.specs.declared.Event.TheVariants.{Node, Body, Section, Extern, Closed, Line, Parent}
use Rattle.reading_cursors.specs.Moves.{Step, start}
use Rattle.reading_cursors.specs.Places.{of_symbol, is_behind}
use Rattle.reading.specs.Scripts.{next}
use Rattle.reading.specs.Events.{on_step, reading, reading_from, reading_within}
use Rattle.reading.specs.Lines.{InOrder, no_more, one_more, Token, TokensInOrder, tokens}
use Rattle.reading.specs.Standing.{Standing}
use Rattle.reading.proofs.Onward.{next_onward, next_stands, start_stands}
use Rattle.reading.proofs.Origins.{next_origin}
use Rattle.reading.proofs.Spans.{Spans, next_spans}

-- where no text of `add_symbol` is read, more is to come
pub going : (x : Place) → of_symbol x ≡ false → is_behind x ≡ false
going place.AtScript h = refl
going place.AtNode h = refl
going place.AtBody h = refl
going place.InBody h = refl
going place.InBodyExtern h = refl
going place.InSole h = refl
going place.InSoleExtern h = refl
going place.AtList h = refl
going place.InList h = refl
going place.InListExtern h = refl
going place.AtSymbol h = refl
going place.InSymbolExtern h = refl
going place.AtBare h = refl
going place.InBareExtern h = refl
going place.BehindSymbol h = absurd (true≢false h)

module _ (s : List ℕ) where
  from_before : {p q : ℕ} {ks : List Token} → p ≤ q → InOrder s q ks → InOrder s p ks
  from_before h no_more = no_more
  from_before {p} {q} h (one_more {k = k} a b c d r) = let i : p ≤ k.place = omega arith in one_more i b c d r

  -- an event before others
  with_event : (c d : Cursor) (e : Event) (es : List Event) → Spans c e d → c.at < d.at → d.at ≤ length s → InOrder s d.at (tokens es)
      → InOrder s c.at (tokens (e ∷ es))
  unfolding tokens
  with_event c d (Node p n) es w o l r = from_before (omega arith) r
  with_event c d Body es w o l r = from_before (omega arith) r
  with_event c d (Section k) es w o l r = from_before (omega arith) r
  with_event c d (Extern k m) es w o l r = from_before (omega arith) r
  with_event c d Closed es w o l r = from_before (omega arith) r
  with_event c d (Line k m p n) es w o l r = one_more w.from w.some w.to l r
  with_event c d (Parent p n) es w o l r = from_before (omega arith) r

  along : (n : ℕ) (c : Cursor) → of_symbol c.place ≡ false → Standing s c → InOrder s c.at (tokens (reading_within n s c).events)
  unfolding reading_within tokens
  along zero c h k = no_more
  along (suc n) c h k = go (next s c) refl (along n)
    where
      go : (r : Step) → next s c ≡ r
          → ((d : Cursor) → of_symbol d.place ≡ false → Standing s d → InOrder s d.at (tokens (reading_within n s d).events))
          → InOrder s c.at (tokens (on_step r (λ d. reading_within n s d)).events)
      go (Ok (Some (e, d))) q more =
          let o = next_origin s c h q in
          let f : of_symbol d.place ≡ false = o.1.few in
          let j = next_stands k q in
          let within : d.at ≤ length s = j.inside (going d.place f) in
          with_event c d e (reading_within n s d).events (next_spans s c h q) (next_onward k q).onward within (more d f j)
      go (Ok None) q more = no_more
      go (Err r) q more = no_more

pub tokens_in_order : TokensInOrder
unfolding reading reading_from start
tokens_in_order edition place s h = along s _ (start edition place) h (start_stands edition place s)
