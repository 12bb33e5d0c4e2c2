use mathlib.Core.Path.{◌≡◌, sym, ap, ◌∙◌}
use Prim.Native.Nat.{ℕ, ◌≤◌}
use mathlib.Core.List.{List, ◌++◌}
use lib.ListN.{length, drop, replicate}
use Rattle.std.proofs.lemmas.List.{length-take-le}
use Rattle.layout.specs.Widths.{order_wide}
use Rattle.scheduler.specs.Heap.{start_heap}
use Rattle.tables.specs.Decode.{tables}
use Rattle.tables.specs.Encode.{lists_head, grains_head, over}
use Rattle.tables.specs.Layout.{order_bytes}
use Rattle.order.specs.Numbers.{fzero}
use Rattle.starting.proofs.Zeros.{start_long}
use native.Mathlib.Omega.{arith}
use Rattle.starting.proofs.clear.clear.Goals as goal

order_is : (cells n : ℕ) → cells ≤ 256 → (front whole : List ℕ) → front ≡ order_bytes (start_heap cells) → whole ≡ replicate n 0
    → front ++ drop order_wide whole ≡ over (order_bytes (start_heap cells)) (replicate n 0)
order_is cells n h front whole e f =
    let bytes = order_bytes (start_heap cells) in
    ap (λ (l : List ℕ). l ++ drop order_wide whole) e ∙ ap (λ (k : ℕ). bytes ++ drop k whole) (sym (start_long cells h)) ∙ ap (λ (l : List ℕ). over bytes l) f

pub slice_bounds-store-end-2 : goal.slice_bounds-store-end-2
slice_bounds-store-end-2 c = omega (arith, c.fill-5.ensures.len, c.requires.2, length-take-le 512 c.fill-5.new.self)

pub store-requires : goal.store-requires
store-requires c = length-take-le 512 c.fill-5.new.self (omega (arith, c.fill-5.ensures.len, c.requires.2))

pub returns : goal.returns
returns c =
    let a = c.args in
    let lists = c.put_lists_head.ensures ∙ ap (over (lists_head 0 a.z a.domain)) (c.fill.ensures.after (λ y e. e)) in
    let grains = c.put_grains_head.ensures ∙ ap (over (grains_head a.domain fzero)) (c.fill-2.ensures.after (λ y e. e)) in
    let queue = c.fill-3.ensures.after (λ y e. e) in
    let events = c.fill-4.ensures.after (λ y e. e) in
    let order = order_is a.z.cells (length a.order.now) c.requires.3 c.store.new.order c.fill-5.new.self (c.store.ensures ∙ ap order_bytes c.new.ensures) (c.fill-5.ensures.after (λ y e. e)) in
    λ i. tables (lists i) (grains i) (queue i) (events i) (order i)
