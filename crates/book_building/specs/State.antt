-- A book while its text is read, as it stands in the buffers, and what each event makes of it there; the buffers before the first. Assumes nothing.
use Rattle.std.specs.Prelude.{ℕ, ◌*◌, ◌≡◌, List, [], Bool, true, false, ◌&&◌, leb, ltb}
use Rattle.numbers.specs.Limits.{script_limit}
use Rattle.packing.specs.Padding.{zeroed}
use Rattle.storing.specs.Keeping.{keep}
use Rattle.reading_cursors.specs.declared.Event.{Event}
use Rattle.book.specs.declared.Counts.{Counts}
use Rattle.book.specs.Books.{edition_of, regular}
use Rattle.book.specs.Layout.{Buffers, five, frame_of}
use Rattle.book.specs.View.{book_of, laid}
use Rattle.book_building.specs.declared.Progress.{Progress}
use Rattle.book_building.specs.declared.Taking.{Taking}
use Rattle.book_building.specs.declared.Taking.TheVariants.{On, No}
use Rattle.book_building.specs.Building.{Building, Taken, on, no, mixed_in_block, take_event, take_node, take_kept, take_parent}

-- the buffers that an opening fills. A journal is none of them
abbrev pub four : List ℕ → List ℕ → List ℕ → List ℕ → Buffers
four n m l q = five n m l q []

-- the counts of what is there so far
abbrev pub counts_so_far : Progress → Counts
counts_so_far g = record { kind = regular; nodes = g.nodes; names = g.names; lines = g.lines; pool = g.pool; edits = 0 }

-- whether the buffers hold it, node 0 at least. A name lies in a script, so none is longer than the longest script
unfoldable pub built : Progress → Buffers → Bool
built g b = ltb 0 g.nodes && (leb g.names (script_limit * g.nodes) && laid (counts_so_far g) b)

unfoldable pub building : Progress → Buffers → Building
building g b = record {
  nodes = (book_of (counts_so_far g) b).nodes;
  lines = (book_of (counts_so_far g) b).lines;
  inside = g.inside;
  mixed = g.mixed;
  starred = g.starred;
}

-- ---- what an event made of it: it stands in the buffers again, or was refused
abbrev pub Took : Taken → Taking → Buffers → Type 0
Took t (On g) b = (t ≡ on (building g b)) × (built g b ≡ true)
Took t (No n p) b = t ≡ no n p

-- whichever event it is, of the text s, in the buffers b
abbrev pub TookEvent : Progress → List ℕ → Event → Buffers → Taking → Buffers → Type 0
TookEvent g s e b r b' = Took (take_event b s (building g b) e) r b'

-- the lines and the pool are as they were, whatever they are
abbrev pub TookNode : Progress → ℕ → List ℕ → List ℕ → List ℕ → Taking → List ℕ → List ℕ → Type 0
TookNode g p name n m r n' m' =
    (l q : List ℕ)
    → built g (five n m l q []) ≡ true
    → Took (take_node (five n m l q []) (building g (five n m l q [])) p name) r (five n' m' l q [])

abbrev pub TookParent : Progress → ℕ → List ℕ → List ℕ → List ℕ → Taking → List ℕ → Type 0
TookParent g p t n m r n' =
    (l q : List ℕ) → built g (five n m l q []) ≡ true → Took (take_parent (building g (five n m l q [])) p t) r (five n' m l q [])

-- the nodes and the names are as they were, whatever they are
abbrev pub TookLine : Progress → ℕ → ℕ → ℕ → List ℕ → List ℕ → List ℕ → Taking → List ℕ → List ℕ → Type 0
TookLine g p section language t l q r l' q' =
    (n m : List ℕ)
    → built g (four n m l q) ≡ true
    → Took (take_kept (four n m l q) (building g (four n m l q)) p section language (keep (edition_of (frame_of (counts_so_far g))) t)) r (four n m l' q')

-- ---- an extern block opens, and closes: `in_block` and `out_of_block`, where nothing is written
abbrev pub inside_block : Progress → ℕ → Progress
inside_block g section = record {
  nodes = g.nodes;
  names = g.names;
  lines = g.lines;
  pool = g.pool;
  inside = true;
  mixed = mixed_in_block g.mixed section;
  starred = g.starred;
}

abbrev pub outside_block : Progress → Progress
outside_block g = record {
  nodes = g.nodes;
  names = g.names;
  lines = g.lines;
  pool = g.pool;
  inside = false;
  mixed = g.mixed;
  starred = g.starred;
}

-- ---- before the first event
-- a buffer that was cleared
abbrev pub Clear : List ℕ → Type 0
Clear l = l ≡ zeroed l

abbrev pub AllClear : Buffers → Type 0
AllClear b = Clear b.nodes × Clear b.names × Clear b.lines × Clear b.pool

-- those that an opening fills, cleared
pub record Cleared (b b' : Buffers) : Type 0 where
  pub nodes : b'.nodes ≡ zeroed b.nodes
  pub names : b'.names ≡ zeroed b.names
  pub lines : b'.lines ≡ zeroed b.lines
  pub pool : b'.pool ≡ zeroed b.pool
