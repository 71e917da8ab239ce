-- `put_fields` meets its contract: behind each call the fields stand as far as to one of them. Assumes nothing.
use Prim.Native.Nat.{ℕ}
use mathlib.Core.List.{List, []}
use native.Mathlib.Omega.{arith}
use lib.ListN.{length}
use Rattle.book.specs.Books.{Line, with_offset}
use Rattle.book.specs.Layout.{line_of}
use Rattle.printing_book.proofs.Pieces.{Placed, room_behind, spaced_behind, spaced-placed, told_behind}
use Rattle.printing_book.proofs.Fields.{fields-put, to_class, to_language, to_length, to_node, to_offset, to_section, to_struck}
use Rattle.printing_book.proofs.lines.put_fields.Goals as goal

-- ---- the needs
pub put_spaced-b-requires : goal.put_spaced-b-requires
put_spaced-b-requires c =
    let Stands : ℕ → (Line → List ℕ) → List ℕ → ℕ → Type 0 = λ m text l r. Placed c.args.out.now c.args.at m (text (with_offset c.args.offset (line_of c.args.node c.args.code c.args.bytes.now))) l r in
    let node : Stands 11 to_node c.put_spaced-a.new.out c.put_spaced-a.result = spaced-placed _ _ [] (with_offset c.args.offset (line_of c.args.node c.args.code c.args.bytes.now)).node (omega (arith, c.requires.0)) c.put_spaced-a.ensures in
    room_behind node 0 (omega (arith, c.requires.0))

pub put_spaced-c-requires : goal.put_spaced-c-requires
put_spaced-c-requires c =
    let Stands : ℕ → (Line → List ℕ) → List ℕ → ℕ → Type 0 = λ m text l r. Placed c.args.out.now c.args.at m (text (with_offset c.args.offset (line_of c.args.node c.args.code c.args.bytes.now))) l r in
    let node : Stands 11 to_node c.put_spaced-a.new.out c.put_spaced-a.result = spaced-placed _ _ [] (with_offset c.args.offset (line_of c.args.node c.args.code c.args.bytes.now)).node (omega (arith, c.requires.0)) c.put_spaced-a.ensures in
    let class : Stands 22 to_class c.put_spaced-b.new.out c.put_spaced-b.result = told_behind node [] (with_offset c.args.offset (line_of c.args.node c.args.code c.args.bytes.now)).class (omega (arith, c.requires.0)) c.put_spaced-b.ensures c.class_of-class.ensures in
    room_behind class 0 (omega (arith, c.requires.0))

pub put_spaced-d-requires : goal.put_spaced-d-requires
put_spaced-d-requires c =
    let Stands : ℕ → (Line → List ℕ) → List ℕ → ℕ → Type 0 = λ m text l r. Placed c.args.out.now c.args.at m (text (with_offset c.args.offset (line_of c.args.node c.args.code c.args.bytes.now))) l r in
    let node : Stands 11 to_node c.put_spaced-a.new.out c.put_spaced-a.result = spaced-placed _ _ [] (with_offset c.args.offset (line_of c.args.node c.args.code c.args.bytes.now)).node (omega (arith, c.requires.0)) c.put_spaced-a.ensures in
    let class : Stands 22 to_class c.put_spaced-b.new.out c.put_spaced-b.result = told_behind node [] (with_offset c.args.offset (line_of c.args.node c.args.code c.args.bytes.now)).class (omega (arith, c.requires.0)) c.put_spaced-b.ensures c.class_of-class.ensures in
    let section : Stands 33 to_section c.put_spaced-c.new.out c.put_spaced-c.result = let e = c.section_of-section.ensures in
    told_behind class [] (with_offset c.args.offset (line_of c.args.node c.args.code c.args.bytes.now)).section (omega (arith, c.requires.0)) c.put_spaced-c.ensures e in
    room_behind section 0 (omega (arith, c.requires.0))

pub put_spaced-e-requires : goal.put_spaced-e-requires
put_spaced-e-requires c =
    let Stands : ℕ → (Line → List ℕ) → List ℕ → ℕ → Type 0 = λ m text l r. Placed c.args.out.now c.args.at m (text (with_offset c.args.offset (line_of c.args.node c.args.code c.args.bytes.now))) l r in
    let node : Stands 11 to_node c.put_spaced-a.new.out c.put_spaced-a.result = spaced-placed _ _ [] (with_offset c.args.offset (line_of c.args.node c.args.code c.args.bytes.now)).node (omega (arith, c.requires.0)) c.put_spaced-a.ensures in
    let class : Stands 22 to_class c.put_spaced-b.new.out c.put_spaced-b.result = told_behind node [] (with_offset c.args.offset (line_of c.args.node c.args.code c.args.bytes.now)).class (omega (arith, c.requires.0)) c.put_spaced-b.ensures c.class_of-class.ensures in
    let section : Stands 33 to_section c.put_spaced-c.new.out c.put_spaced-c.result = let e = c.section_of-section.ensures in
    told_behind class [] (with_offset c.args.offset (line_of c.args.node c.args.code c.args.bytes.now)).section (omega (arith, c.requires.0)) c.put_spaced-c.ensures e in
    let language : Stands 44 to_language c.put_spaced-d.new.out c.put_spaced-d.result = let e = c.language_of-language.ensures in
    told_behind section [] (with_offset c.args.offset (line_of c.args.node c.args.code c.args.bytes.now)).language (omega (arith, c.requires.0)) c.put_spaced-d.ensures e in
    room_behind language 0 (omega (arith, c.requires.0))

pub overflow_cast-bytes : goal.overflow_cast-bytes
overflow_cast-bytes c = omega (arith, c.requires.1)

pub put_spaced-f-requires : goal.put_spaced-f-requires
put_spaced-f-requires c =
    let Stands : ℕ → (Line → List ℕ) → List ℕ → ℕ → Type 0 = λ m text l r. Placed c.args.out.now c.args.at m (text (with_offset c.args.offset (line_of c.args.node c.args.code c.args.bytes.now))) l r in
    let node : Stands 11 to_node c.put_spaced-a.new.out c.put_spaced-a.result = spaced-placed _ _ [] (with_offset c.args.offset (line_of c.args.node c.args.code c.args.bytes.now)).node (omega (arith, c.requires.0)) c.put_spaced-a.ensures in
    let class : Stands 22 to_class c.put_spaced-b.new.out c.put_spaced-b.result = told_behind node [] (with_offset c.args.offset (line_of c.args.node c.args.code c.args.bytes.now)).class (omega (arith, c.requires.0)) c.put_spaced-b.ensures c.class_of-class.ensures in
    let section : Stands 33 to_section c.put_spaced-c.new.out c.put_spaced-c.result = let e = c.section_of-section.ensures in
    told_behind class [] (with_offset c.args.offset (line_of c.args.node c.args.code c.args.bytes.now)).section (omega (arith, c.requires.0)) c.put_spaced-c.ensures e in
    let language : Stands 44 to_language c.put_spaced-d.new.out c.put_spaced-d.result = let e = c.language_of-language.ensures in
    told_behind section [] (with_offset c.args.offset (line_of c.args.node c.args.code c.args.bytes.now)).language (omega (arith, c.requires.0)) c.put_spaced-d.ensures e in
    let struck : Stands 55 to_struck c.put_spaced-e.new.out c.put_spaced-e.result = let p = language in
    spaced_behind p [] (with_offset c.args.offset (line_of c.args.node c.args.code c.args.bytes.now)).struck (omega (arith, c.requires.0)) c.put_spaced-e.ensures in
    room_behind struck 0 (omega (arith, c.requires.0))

pub put_spaced-requires : goal.put_spaced-requires
put_spaced-requires c =
    let Stands : ℕ → (Line → List ℕ) → List ℕ → ℕ → Type 0 = λ m text l r. Placed c.args.out.now c.args.at m (text (with_offset c.args.offset (line_of c.args.node c.args.code c.args.bytes.now))) l r in
    let node : Stands 11 to_node c.put_spaced-a.new.out c.put_spaced-a.result = spaced-placed _ _ [] (with_offset c.args.offset (line_of c.args.node c.args.code c.args.bytes.now)).node (omega (arith, c.requires.0)) c.put_spaced-a.ensures in
    let class : Stands 22 to_class c.put_spaced-b.new.out c.put_spaced-b.result = told_behind node [] (with_offset c.args.offset (line_of c.args.node c.args.code c.args.bytes.now)).class (omega (arith, c.requires.0)) c.put_spaced-b.ensures c.class_of-class.ensures in
    let section : Stands 33 to_section c.put_spaced-c.new.out c.put_spaced-c.result = let e = c.section_of-section.ensures in
    told_behind class [] (with_offset c.args.offset (line_of c.args.node c.args.code c.args.bytes.now)).section (omega (arith, c.requires.0)) c.put_spaced-c.ensures e in
    let language : Stands 44 to_language c.put_spaced-d.new.out c.put_spaced-d.result = let e = c.language_of-language.ensures in
    told_behind section [] (with_offset c.args.offset (line_of c.args.node c.args.code c.args.bytes.now)).language (omega (arith, c.requires.0)) c.put_spaced-d.ensures e in
    let struck : Stands 55 to_struck c.put_spaced-e.new.out c.put_spaced-e.result = let p = language in
    spaced_behind p [] (with_offset c.args.offset (line_of c.args.node c.args.code c.args.bytes.now)).struck (omega (arith, c.requires.0)) c.put_spaced-e.ensures in
    let sized : Stands 66 to_length c.put_spaced-f.new.out c.put_spaced-f.result = let p = struck in
    spaced_behind p [] (length (with_offset c.args.offset (line_of c.args.node c.args.code c.args.bytes.now)).bytes) (omega (arith, c.requires.0)) c.put_spaced-f.ensures in
    room_behind sized 0 (omega (arith, c.requires.0))

pub shape_of-out : goal.shape_of-out
shape_of-out c =
    let Stands : ℕ → (Line → List ℕ) → List ℕ → ℕ → Type 0 = λ m text l r. Placed c.args.out.now c.args.at m (text (with_offset c.args.offset (line_of c.args.node c.args.code c.args.bytes.now))) l r in
    let node : Stands 11 to_node c.put_spaced-a.new.out c.put_spaced-a.result = spaced-placed _ _ [] (with_offset c.args.offset (line_of c.args.node c.args.code c.args.bytes.now)).node (omega (arith, c.requires.0)) c.put_spaced-a.ensures in
    let class : Stands 22 to_class c.put_spaced-b.new.out c.put_spaced-b.result = told_behind node [] (with_offset c.args.offset (line_of c.args.node c.args.code c.args.bytes.now)).class (omega (arith, c.requires.0)) c.put_spaced-b.ensures c.class_of-class.ensures in
    let section : Stands 33 to_section c.put_spaced-c.new.out c.put_spaced-c.result = let e = c.section_of-section.ensures in
    told_behind class [] (with_offset c.args.offset (line_of c.args.node c.args.code c.args.bytes.now)).section (omega (arith, c.requires.0)) c.put_spaced-c.ensures e in
    let language : Stands 44 to_language c.put_spaced-d.new.out c.put_spaced-d.result = let e = c.language_of-language.ensures in
    told_behind section [] (with_offset c.args.offset (line_of c.args.node c.args.code c.args.bytes.now)).language (omega (arith, c.requires.0)) c.put_spaced-d.ensures e in
    let struck : Stands 55 to_struck c.put_spaced-e.new.out c.put_spaced-e.result = let p = language in
    spaced_behind p [] (with_offset c.args.offset (line_of c.args.node c.args.code c.args.bytes.now)).struck (omega (arith, c.requires.0)) c.put_spaced-e.ensures in
    let sized : Stands 66 to_length c.put_spaced-f.new.out c.put_spaced-f.result = let p = struck in
    spaced_behind p [] (length (with_offset c.args.offset (line_of c.args.node c.args.code c.args.bytes.now)).bytes) (omega (arith, c.requires.0)) c.put_spaced-f.ensures in
    let all-put : Stands 77 to_offset c.put_spaced.new.out c.put_spaced.result = let p = sized in
    spaced_behind p [] (with_offset c.args.offset (line_of c.args.node c.args.code c.args.bytes.now)).offset (omega (arith, c.requires.0)) c.put_spaced.ensures in
    all-put.long

pub returns : goal.returns
returns c =
    let Stands : ℕ → (Line → List ℕ) → List ℕ → ℕ → Type 0 = λ m text l r. Placed c.args.out.now c.args.at m (text (with_offset c.args.offset (line_of c.args.node c.args.code c.args.bytes.now))) l r in
    let node : Stands 11 to_node c.put_spaced-a.new.out c.put_spaced-a.result = spaced-placed _ _ [] (with_offset c.args.offset (line_of c.args.node c.args.code c.args.bytes.now)).node (omega (arith, c.requires.0)) c.put_spaced-a.ensures in
    let class : Stands 22 to_class c.put_spaced-b.new.out c.put_spaced-b.result = told_behind node [] (with_offset c.args.offset (line_of c.args.node c.args.code c.args.bytes.now)).class (omega (arith, c.requires.0)) c.put_spaced-b.ensures c.class_of-class.ensures in
    let section : Stands 33 to_section c.put_spaced-c.new.out c.put_spaced-c.result = let e = c.section_of-section.ensures in
    told_behind class [] (with_offset c.args.offset (line_of c.args.node c.args.code c.args.bytes.now)).section (omega (arith, c.requires.0)) c.put_spaced-c.ensures e in
    let language : Stands 44 to_language c.put_spaced-d.new.out c.put_spaced-d.result = let e = c.language_of-language.ensures in
    told_behind section [] (with_offset c.args.offset (line_of c.args.node c.args.code c.args.bytes.now)).language (omega (arith, c.requires.0)) c.put_spaced-d.ensures e in
    let struck : Stands 55 to_struck c.put_spaced-e.new.out c.put_spaced-e.result = let p = language in
    spaced_behind p [] (with_offset c.args.offset (line_of c.args.node c.args.code c.args.bytes.now)).struck (omega (arith, c.requires.0)) c.put_spaced-e.ensures in
    let sized : Stands 66 to_length c.put_spaced-f.new.out c.put_spaced-f.result = let p = struck in
    spaced_behind p [] (length (with_offset c.args.offset (line_of c.args.node c.args.code c.args.bytes.now)).bytes) (omega (arith, c.requires.0)) c.put_spaced-f.ensures in
    let all-put : Stands 77 to_offset c.put_spaced.new.out c.put_spaced.result = let p = sized in
    spaced_behind p [] (with_offset c.args.offset (line_of c.args.node c.args.code c.args.bytes.now)).offset (omega (arith, c.requires.0)) c.put_spaced.ensures in
    fields-put (with_offset c.args.offset (line_of c.args.node c.args.code c.args.bytes.now)) all-put
