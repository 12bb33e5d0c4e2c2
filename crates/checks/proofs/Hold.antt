-- What it means that the lent tables, headers and all, hold a state. Assumes nothing: these are definitions.
use mathlib.Core.Path.{◌≡◌}
use mathlib.Core.Bool.{true}
use Rattle.model.specs.State.{State}
use Rattle.tables.specs.declared.Sizes.{Sizes}
use Rattle.tables.specs.Holds.{Holds}
use Rattle.tables.specs.Decode.{Tables, mark, sizes_of, flags_fine, box_in, clock_in}
use Rattle.tables.specs.Bodies.{lists_body, grains_body, queue_body, events_body, order_body}

pub record Hold (z : Sizes) (t : Tables) (s : State) : Type 0 where
  pub sizes : z ≡ sizes_of t.lists
  pub mark_is : mark t.lists ≡ s.mark
  pub flags : flags_fine t.lists ≡ true
  pub box_is : box_in t.lists t.grains ≡ s.box
  pub clock_is : clock_in t.grains ≡ s.clock
  pub body : Holds z (lists_body z t.lists) (grains_body z t.grains) (queue_body z t.queue) (events_body z t.events) (order_body t.order) s
