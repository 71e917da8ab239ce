-- "14 … a node name or parent that no reading gives": the names and parents that a reading gives are those that the tests of book/specs/Sanity.antt pass, and
-- no others. proofs/Given.antt proves it. Assumes nothing.
use Rattle.std.specs.Prelude.{ℕ, ◌+◌, ◌<◌, ◌≡◌, List, [], ◌∷◌, true, false, length, get_or, Some}
use Rattle.numbers.specs.Editions.{reld}
use Rattle.numbers.specs.Limits.{over, script_limit}
use Rattle.lists.specs.Each.{every}
use Rattle.reading_cursors.specs.declared.Event.TheVariants.{Node, Body, Parent}
use Rattle.reading_cursors.specs.Places.{at_script}
use Rattle.reading.specs.Events.{accepted, reading}
use Rattle.book.specs.Books.{Book, first_named, no_node}
use Rattle.book.specs.Books as book
use Rattle.book.specs.Layout.{Buffers}
use Rattle.book.specs.Sanity.{name_at, name_good, name_script, no_semicolon, parent_good, parent_script}
use Rattle.book_opening.specs.Opening.{as_script, opening, opens}

-- a reading gives the name t: some script opens, in some buffers, as a book with a node of that name
pub record NameGiven (t : List ℕ) : Type 0 where
  pub script : List ℕ
  pub buffers : Buffers
  pub book : Book
  pub opened : opening as_script buffers script ≡ opens book
  pub node : ℕ
  pub some : 0 < node
  pub within : node < length (book).nodes
  pub name : name_at (book).nodes node ≡ t

-- a reading gives a node of the name t a parent of the name u
pub record ParentGiven (t u : List ℕ) : Type 0 where
  pub script : List ℕ
  pub buffers : Buffers
  pub book : Book
  pub opened : opening as_script buffers script ≡ opens book
  pub node : ℕ
  pub within : node < length (book).nodes
  pub name : name_at (book).nodes node ≡ t
  pub some : 0 < (get_or (book).nodes node no_node).parent
  pub parent : name_at (book).nodes (get_or (book).nodes node no_node).parent ≡ u

-- ---- a node name that 14 accepts, and one that a reading gives, are the same
pub record NamesGiven (t : List ℕ) : Type 0 where
  pub accepted : name_good t ≡ true → NameGiven t
  pub given : NameGiven t → name_good t ≡ true

-- ---- a parent p of node i that 14 accepts is an earlier node, the first of its name, of a name that a reading gives a node of node i's name as its
-- parent's, and each such one is accepted: "it equals an earlier node's name, the first such". Of the other nodes nothing is asked, as of names
pub record ParentStands (all : List book.Node) (i p : ℕ) : Type 0 where
  pub earlier : p < i
  pub first : first_named all 0 (name_at all p) ≡ Some p
  pub given : ParentGiven (name_at all i) (name_at all p)

pub record ParentsGiven (all : List book.Node) (i p : ℕ) : Type 0 where
  pub accepted : name_good (name_at all i) ≡ true → name_good (name_at all p) ≡ true → parent_good all i p ≡ true → ParentStands all i p
  pub given : ParentStands all i p → parent_good all i p ≡ true

-- ---- the shortest scripts, `t{};` and `u{};t{}u;`, are read so
abbrev pub NameScriptRead : List ℕ → Type 0
NameScriptRead t =
    reading reld at_script (name_script t)
    ≡ record { events = Node 0 (length t) ∷ Body ∷ Parent (length t + 2) 0 ∷ []; outcome = accepted }

abbrev pub ParentScriptRead : List ℕ → List ℕ → Type 0
ParentScriptRead t u =
    reading reld at_script (parent_script t u)
    ≡ record {
      events =
          Node 0 (length u)
          ∷ Body
          ∷ Parent (length u + 2) 0
          ∷ Node (length u + 3) (length t)
          ∷ Body
          ∷ Parent (length u + 3 + length t + 2) (length u)
          ∷ [];
      outcome = accepted;
    }

pub record Given : Type 0 where
  pub names : (t : List ℕ) → NamesGiven t
  pub parents : (all : List book.Node) (i p : ℕ) → 0 < p → ParentsGiven all i p
  pub name_scripts : (t : List ℕ) → name_good t ≡ true → NameScriptRead t
  pub parent_scripts : (t u : List ℕ) → name_good t ≡ true → name_good u ≡ true → every no_semicolon u ≡ true → over script_limit (parent_script t u) ≡ false
      → ParentScriptRead t u
