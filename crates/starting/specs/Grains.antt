-- What it asks that grains go in, and what that answers and leaves, over the lists and the grains' numbers. Assumes nothing: these are definitions.
use Rattle.std.specs.Prelude.{ℕ, ◌*◌, ◌≤◌, ◌≡◌, List, length, Float}
use Rattle.halting.specs.Out.{Out}
use Rattle.layout.specs.Widths.{input_wide}
use Rattle.model.specs.State.{State}
use Rattle.tables.specs.Holds.{Ranged}
use Rattle.acts.specs.Tell.{InLists, InGrains}
use Rattle.step.specs.declared.World.{World}

-- the tables hold a state's lists and grains, and the box is the state's
pub record InBoth (w : World) (l : List ℕ) (t : List Float) (s : State) : Type 0 where
  pub lists : InLists w.sizes l s
  pub grains : InGrains w.sizes t s
  pub box : s.box ≡ w.domain

abbrev pub BothTold : World → List ℕ → List Float → ℕ → Out State → Type 0
BothTold w l t r o = (r ≡ o.num) × InBoth w l t o.st

pub record Going (w : World) (inputs : List Float) (l : List ℕ) (t : List Float) : Type 0 where
  pub held : (s : State) × InBoth w l t s
  pub ranged : Ranged w.sizes
  pub inputs_long : w.sizes.grains * input_wide ≤ length inputs
