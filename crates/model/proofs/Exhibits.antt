-- INSTANCES: a start, runs behind it, and a test of the history and the state that they reach. Where the definitions compute that it passes, that state is shown. Assumes nothing.
use Prim.Native.Nat.{ℕ}
use mathlib.Core.Path.{◌≡◌, refl}
use mathlib.Core.List.{List}
use mathlib.Core.Bool.{Bool, true, false, ◌&&◌}
use lib.Dec.{T, eqb}
use lib.Ieee.Bits.{is_true}
use borrow.Author.Tests.{eqb-true}
use Rattle.halting.proofs.Bools.{clash, and_l, and_r}
use Rattle.model.specs.declared.Domain.{Domain}
use Rattle.model.specs.declared.Particle.{Particle}
use Rattle.model.specs.State.{State}
use Rattle.model.specs.Start.{Begun, refused as turned-away, started, start}
use Rattle.model.specs.Check.{Fits}
use Rattle.model.specs.Reached.{Call, after, Reached}
use Rattle.model.specs.History.{History, calls_done, start_done, history}

module _ (b : Domain) (room : ℕ) (gs : List Particle) (ks : List Call) (t : History → State → Bool) where
  abbrev pub passes : Begun → Bool
  passes (turned-away r i) = false
  passes (started s) = eqb (after ks s).mark 0 && t (calls_done ks s (start_done b room gs)) (after ks s)

  pub record Exhibit : Type 0 where
    pub state : State
    pub reached : Reached state
    pub unhalted : state.mark ≡ 0
    pub passed : t (history state reached) state ≡ true

  of_begun : Fits b → (o : Begun) → start b room gs ≡ o → passes o ≡ true → Exhibit
  of_begun f (turned-away r i) e p = clash p
  of_begun f (started s) e p =
      let m = eqb (after ks s).mark 0 in
      record {
        state = after ks s;
        reached = record { box = b; fits = f; room = room; grains = gs; begun = s; accepted = e; calls = ks; there = refl };
        unhalted = eqb-true (after ks s).mark 0 (and_l m _ p);
        passed = and_r m _ p;
      }

  pub exhibit : Fits b → passes (start b room gs) ≡ true → Exhibit
  exhibit f p = of_begun f (start b room gs) refl p

-- two tests computed together
pub both_passed : (a b : Bool) → T (a && b) → (a ≡ true) × (b ≡ true)
both_passed a b t = let e = is_true (a && b) t in (and_l a b e, and_r a b e)
