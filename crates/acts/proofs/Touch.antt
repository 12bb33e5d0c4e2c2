-- What the acts on the lists and on the grains leave as it was, also in a row. Assumes nothing.
use Prim.Native.Nat.{ℕ, zero, suc}
use mathlib.Core.Path.{◌≡◌, refl, sym, ap, ◌∙◌, subst}
use mathlib.Core.Bool.{Bool, true, false, cond}
use mathlib.Core.List.{List, [], ◌∷◌}
use lib.Dec.{ltb, leb}
use lib.Ieee.{Float}
use lib.ListN.{length, set}
use Rattle.halting.specs.Out.{Out, out, next, then, each, each_of}
use Rattle.model.specs.declared.Domain.{Domain}
use Rattle.model.specs.declared.Particle.{Particle}
use Rattle.model.specs.Stepping.{stepped}
use Rattle.model.specs.State.{State, with_grains, with_lists, home, listed, has, grain}
use Rattle.model.specs.Acts.{fine_grain, store, enter, entered, leave, gone}
use Rattle.layout.specs.Widths.{home_room, member_room}
use Rattle.model.specs.Doing.{step_grain}
use Rattle.acts.specs.Tell.{At}

-- ---- what one act leaves, and one leaves after another, a row of them leaves
module _ (R : State → State → Type 0) (none : (s : State) → R s s) (both : (s u w : State) → R s u → R u w → R s w) where
  pub touch_then : (s : State) (o : Out State) (k : State → Out State) → R s o.st → ((u : State) → R u (k u).st) → R s (then o k).st
  touch_then s o k a f = go o.num
    where
      go : (n : ℕ) → R s (next n o.st k).st
      go zero = both s o.st (k o.st).st a (f o.st)
      go (suc n) = a

  pub touch_of : (act : ℕ → State → Out State) → ((c : ℕ) (u : State) → R u (act c u).st) → (l : List ℕ) (s : State) → R s (each_of act l s).st
  unfolding each_of
  touch_of act f [] s = none s
  touch_of act f (x ∷ l) s = touch_then s (act x s) (each_of act l) (f x s) (touch_of act f l)

  pub touch_each : (act : ℕ → State → Out State) → ((c : ℕ) (u : State) → R u (act c u).st) → (m c : ℕ) (s : State) → R s (each act m c s).st
  unfolding each
  touch_each act f zero c s = none s
  touch_each act f (suc m) c s = touch_then s (act c s) (each act m (suc c)) (f c s) (touch_each act f m (suc c))

-- ---- u is s but for its grains; but for its lists
abbrev pub OnlyGrains : State → State → Type 0
OnlyGrains s u = u ≡ with_grains u.grains s

abbrev pub OnlyLists : State → State → Type 0
OnlyLists s u = u ≡ with_lists u.homes u.members s

pub grains_none : (s : State) → OnlyGrains s s
grains_none s = refl

pub grains_both : (s u w : State) → OnlyGrains s u → OnlyGrains u w → OnlyGrains s w
grains_both s u w a b = b ∙ ap (λ (x : State). with_grains w.grains x) a

pub lists_none : (s : State) → OnlyLists s s
lists_none s = refl

pub lists_both : (s u w : State) → OnlyLists s u → OnlyLists u w → OnlyLists s w
lists_both s u w a b = b ∙ ap (λ (x : State). with_lists w.homes w.members x) a

-- ---- the acts
pub store_only : (g : ℕ) (p : Particle) (s : State) → OnlyGrains s (store g p s).st
unfolding store
store_only g p s = go (fine_grain p)
  where
    go : (b : Bool) → OnlyGrains s (cond b (out 0 (with_grains (set s.grains g p) s)) (out 5 s)).st
    go true = refl
    go false = refl

pub step_only : (g : ℕ) (s : State) → OnlyGrains s (step_grain g s).st
unfolding step_grain
step_only g s = store_only g (stepped s.box s.clock (grain s g)) s

pub enter_only : (g c : ℕ) (s : State) → OnlyLists s (enter g c s).st
unfolding enter
enter_only g c s = go (has g (listed s c)) (ltb (length (listed s c)) member_room) (ltb (length (home s g)) home_room)
  where
    go : (a b d : Bool) → OnlyLists s (cond a (out 8 s) (cond b (cond d (out 0 (entered g c s)) (out 7 s)) (out 7 s))).st
    go true b d = refl
    go false false d = refl
    go false true false = refl
    go false true true = refl

pub leave_only : (g c : ℕ) (s : State) → OnlyLists s (leave g c s).st
unfolding leave
leave_only g c s = go (leb (length (home s g)) 1)
  where
    go : (a : Bool) → OnlyLists s (cond a (out 9 s) (out 0 (gone g c s))).st
    go true = refl
    go false = refl

-- ---- a fact of the state that does not speak of the grains, or not of the lists, goes along
pub grains_along : (P : State → Type 0) (s u : State) → OnlyGrains s u → P (with_grains u.grains s) → P u
grains_along P s u o p = subst P (sym o) p

pub lists_along : (P : State → Type 0) (s u : State) → OnlyLists s u → P (with_lists u.homes u.members s) → P u
lists_along P s u o p = subst P (sym o) p

pub at_on : (b : Domain) (t : Float) (s u : State) → OnlyGrains s u → At b t s → At b t u
at_on b t s u o a = grains_along (At b t) s u o a

pub each_step_only : (l : List ℕ) (s : State) → OnlyGrains s (each_of step_grain l s).st
each_step_only l s = touch_of OnlyGrains grains_none grains_both step_grain step_only l s

pub all_step_only : (m c : ℕ) (s : State) → OnlyGrains s (each step_grain m c s).st
all_step_only m c s = touch_each OnlyGrains grains_none grains_both step_grain step_only m c s
