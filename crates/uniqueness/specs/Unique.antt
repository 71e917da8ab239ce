-- A contract leaves one answer and one end state: whatever two runs from the same arguments answer and leave, where both keep the contract's promise, is the
-- same. Assumes nothing.
use Rattle.std.specs.Prelude.{◌≡◌}
use contract.Lifetimes.{Lfts}
use contract.Monad.{fact}
use denote.Triple.Entry.{Args, Res}
use denote.Triple.Clauses.{AtExit, Clauses, Ended, Lasts, at_exit}
use borrow.Fn.World.{World}

-- a promise: of the lifetimes, the arguments, the answer and the parameters at exit
abbrev pub Promise : Ended → Type 1
Promise T = (κs : Lfts T.signature.lifetimes) → Args T.signature κs → Res T.signature κs → AtExit T κs → Type 0

-- x and y are answers, of which `see` is told; v and w are what the parameters last are: of each `&mut` its contents, of any other nothing
abbrev pub UniqueAs : (T : Ended) (S : Lfts T.signature.lifetimes → Type 0)
    → ((κs : Lfts T.signature.lifetimes) → Res T.signature κs → S κs) → Promise T → Type 0
UniqueAs T S see P =
    (κs : Lfts T.signature.lifetimes) (a : Args T.signature κs) (x y : Res T.signature κs) (v w : Lasts T κs a)
    → P κs a x (at_exit T κs a v) → P κs a y (at_exit T κs a w) → (see κs x ≡ see κs y) × (v ≡ w)

-- the answers themselves. Of a slice that is too much: the name under which the proofs follow its contents is no part of it
abbrev pub Unique : (T : Ended) → Promise T → Type 0
Unique T = UniqueAs T (Res T.signature) (λ κs x. x)

-- P is what a contract's clauses promise, in every model of the logic
abbrev pub Says : (T : Ended) → ((w : World) → Clauses w.𝓤 T) → Promise T → Type 2
Says T clauses P =
    (w : World) (κs : Lfts T.signature.lifetimes) (a : Args T.signature κs) (g : (clauses w κs a).ghost) (x : Res T.signature κs) (e : AtExit T κs)
    → (clauses w κs a).ensures g x e ≡ fact w.𝓤 (P κs a x e)
