-- Functions as a caller meets them: runs that keep their promises, and runs one behind the other, each lent what the last one left. Assumes nothing.
use Rattle.std.specs.Prelude.{ℕ, ◌≡◌, List, [], ◌∷◌, Bool, Option, Result}
use contract.Lifetimes.{Lfts}
use denote.Triple.Entry.{Args, Res}
use denote.Triple.Clauses.{AtExit, Ended, Lasts, at_exit}
use Rattle.book.specs.Layout.{Buffers}
use Rattle.book_opening.specs.declared.How.{How}
use Rattle.ranking.specs.Matching.{Name}
use Rattle.numbers.specs.declared.Refusal.{Refusal}
use Rattle.lookups.specs.Lookups.{LocalityAnswer, VersionAnswer}
use Rattle.uniqueness.specs.Unique.{Promise}
use Rattle.histories.specs.Histories.{Call, Lent, Told}

-- a run that keeps the promise P: what it is given, what it answers, and what its parameters last are. Each function has no `requires` and is proved, in its
-- own crate and of every run of its code, to keep its promise: so each of its runs is such a one. That step is the meaning of a proved function, and no
-- theorem here
pub record RunOf (T : Ended) (P : Promise T) : Type 0 where
  pub lifetimes : Lfts T.signature.lifetimes
  pub given : Args T.signature lifetimes
  pub answered : Res T.signature lifetimes
  pub last : Lasts T lifetimes given
  pub kept : P lifetimes given answered (at_exit T lifetimes given last)

-- its parameters at exit
abbrev pub exit : {T : Ended} {P : Promise T} (f : RunOf T P) → AtExit T f.lifetimes
exit {T} f = at_exit T f.lifetimes f.given f.last

-- ---- what a caller sees of a run; S is how it holds counts and buffers
-- of an opening: how a text is opened in which buffers, the number that is answered, 0 where it is accepted, and what is left
pub record SeenOpening (S : Type 0) : Type 0 where
  pub how : How
  pub buffers : Buffers
  pub text : List ℕ
  pub number : ℕ
  pub left : S

-- of an edit: what it was lent, which call it was, the number that was answered, 0 where it is done, and what is left
pub record SeenEdit (S : Type 0) : Type 0 where
  pub lent : S
  pub call : Call
  pub number : ℕ
  pub left : S

-- of a question Q with answers A: what it was lent and asked, and when it answers a. It takes counts and buffers by `&`, so they stay as they are
pub record SeenQuestion (S Q A : Type 0) : Type 1 where
  pub lent : S
  pub asked : Q
  pub answers : A → Type 0

-- ---- an interface: how its callers hold counts and buffers, and the runs of its functions
pub record Interface : Type 1 where
  pub Holding : Type 0
  pub holding : Lent → Holding
  pub OpeningRun : Type 0
  pub opens : OpeningRun → SeenOpening Holding
  pub EditRun : Type 0
  pub edits : EditRun → SeenEdit Holding
  pub VersionRun : Type 0
  pub version : VersionRun → SeenQuestion Holding (Name × Option (List ℕ)) VersionAnswer
  pub LocalityRun : Type 0
  pub locality : LocalityRun → SeenQuestion Holding Name LocalityAnswer
  pub MemberRun : Type 0
  pub member : MemberRun → SeenQuestion Holding Name (Result Bool Refusal)

module _ (I : Interface) where
  -- demand 3: "each call … gets the buffers and counts that the last one left": edits that lead from x to y
  unfoldable pub InTurn : I.Holding → List I.EditRun → I.Holding → Type 0
  InTurn x [] y = x ≡ y
  InTurn x (f ∷ fs) y = ((I.edits f).lent ≡ x) × InTurn (I.edits f).left fs y

  -- their calls, and these with the numbers that were answered
  unfoldable pub calls : List I.EditRun → List Call
  calls [] = []
  calls (f ∷ fs) = (I.edits f).call ∷ calls fs

  unfoldable pub tellings : List I.EditRun → List Told
  tellings [] = []
  tellings (f ∷ fs) = record { call = (I.edits f).call; number = (I.edits f).number } ∷ tellings fs
