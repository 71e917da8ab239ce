-- A version script, or with `export` an export list: the exits of `how_of`, and the opening in the way that it answers. Assumes nothing.
use Prim.Native.Nat.{ℕ}
use mathlib.Core.Path.{◌≡◌, refl}
use mathlib.Core.List.{List}
use mathlib.Core.Bool.{Bool, true, false, cond}
use Rattle.book.specs.Layout.{Buffers}
use Rattle.book_opening.specs.declared.How.{How}
use Rattle.book_opening.specs.declared.Opened.{Opened}
use Rattle.book_opening.specs.Opening.{as_list, as_script, left, opening, told}
use Rattle.book_opened.specs.Opened.{opens_at}

-- in both ways a text opens
pub chosen_opens : (v : Bool) → opens_at (cond v as_list as_script) ≡ true
chosen_opens true = refl
chosen_opens false = refl

abbrev Opens : How → Buffers → List ℕ → Opened → Buffers → Type 0
Opens how b s r b' = (r ≡ told (opening how b s)) × (b' ≡ left b (opening how b s))

-- what `how_of` answers
pub list_chosen : (v : Bool) → v ≡ true → as_list ≡ cond v as_list as_script
list_chosen v e = rw e

pub script_chosen : (v : Bool) → v ≡ false → as_script ≡ cond v as_list as_script
script_chosen v e = rw e

pub opens-there : (q how : How) → q ≡ how → (b : Buffers) (s : List ℕ) (r : Opened) (b' : Buffers) → Opens q b s r b' → Opens how b s r b'
opens-there q how e b s r b' h = rw (← e) h
