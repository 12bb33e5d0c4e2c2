-- How long the tables must be. 01: "no table needs more than 32 numbers for each grain, cell, list place and event place that the counts give, and 1,024 besides". Assumes nothing.
use mathlib.Core.Path.{◌≡◌, sym, ap, ◌∙◌, subst}
use Prim.Native.Nat.{ℕ, ◌+◌, ◌*◌, ◌≤◌}
use native.Mathlib.Nat.{mul-add, mul_assoc, mul-one}
use native.Mathlib.Omega.{arith}
use Rattle.layout.specs.Widths.{lists_head_wide, grains_head_wide, home_room, member_room, place_nums_wide, place_reals_wide}
use Rattle.tables.specs.declared.Sizes.{Sizes}
use Rattle.tables.specs.declared.lengths.Lengths.{Lengths}
use Rattle.tables.specs.Lengths.{lists_need, grains_need, queue_need, events_need, order_need, lengths_for}

-- grains, cells, list places and event places
abbrev pub allowed : Sizes → ℕ
allowed z = 32 * (z.grains + z.cells + (z.grains * home_room + z.cells * member_room) + z.cells * z.room) + 1024

pub needs_most : (z : Sizes) → (lists_need z ≤ allowed z) × (grains_need z ≤ allowed z) × (queue_need z ≤ allowed z) × (events_need z ≤ allowed z) × (order_need ≤ allowed z)
needs_most z =
    let places = z.cells * z.room in
    let q : queue_need z ≡ places * place_nums_wide + z.cells =
    mul-add z.cells (z.room * place_nums_wide) 1
    ∙ ap (λ (k : ℕ). k + z.cells * 1) (sym (mul_assoc z.cells z.room place_nums_wide))
    ∙ ap (λ (k : ℕ). places * place_nums_wide + k) (mul-one z.cells) in
    let e : events_need z ≡ places * place_reals_wide = sym (mul_assoc z.cells z.room place_reals_wide) in
    (omega arith, omega arith, omega arith, omega arith, omega arith)

-- where the parts behind the headers end, in tables of these lengths
pub record Ends (n : Lengths) (l g q e : ℕ) : Type 0 where
  pub lists_from : lists_head_wide ≤ n.lists
  pub lists_to : n.lists ≤ l
  pub grains_from_lem : grains_head_wide ≤ n.grains
  pub grains_to : n.grains ≤ g
  pub queue_to : n.queue ≤ q
  pub events_to : n.events ≤ e

pub ends_of : (z : Sizes) (n : Lengths) {l g q e : ℕ} → n ≡ lengths_for z → lists_need z ≤ l → grains_need z ≤ g → queue_need z ≤ q → events_need z ≤ e → Ends n l g q e
ends_of z n {l} {g} {q} {e} is hl hg hq he =
    subst (λ (m : Lengths). Ends m l g q e) (sym is)
    (record { lists_from = omega arith; lists_to = hl; grains_from_lem = omega arith; grains_to = hg; queue_to = hq; events_to = he })
