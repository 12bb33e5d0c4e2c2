-- The grains' table: grain i lies within it, is read from it, and is put back. Assumes nothing.
use mathlib.Core.Path.{◌≡◌, refl, ap, ◌∙◌}
use Prim.Native.Nat.{ℕ, ◌+◌, ◌-◌, ◌*◌, ◌≤◌, ◌<◌}
use native.Mathlib.Omega.{arith}
use mathlib.Core.List.{List}
use lib.Dec.{lit<}
use lib.Ieee.{Float}
use lib.ListN.{length, get_or, set, length-set}
use borrow.Rule.Slice.PartMut.{mid_of, put_mid}
use Rattle.chunks.proofs.Laws.{row_long, row_get, row_put, chunk_in}
use Rattle.layout.specs.Widths.{grain_wide}
use Rattle.model.specs.declared.Particle.{Particle}
use Rattle.model.specs.State.{zero_g}
use Rattle.tables.specs.declared.Sizes.{Sizes}
use Rattle.tables.specs.Layout.{grain_reals}
use Rattle.tables.specs.Holds.{Ranged, Grained}

module _ {z : Sizes} {t : List Float} {gs : List Particle} (G : Grained z t gs) where
  pub grains_long : length t ≡ z.grains * grain_wide
  grains_long = row_long grain_reals grain_wide (λ p. refl) (lit< tt) gs G.is ∙ ap (λ (n : ℕ). n * grain_wide) G.many

  -- what reading or writing grain i asks
  pub grain_fits : Ranged z → (i : ℕ) → i < z.grains → (i < 256) × (i * grain_wide + grain_wide ≤ length t)
  grain_fits R i h = let k = grains_long in let c = chunk_in i z.grains grain_wide h in let m = R.grains_most in (omega arith, omega arith)

  pub grain_read : (i : ℕ) → i * grain_wide + grain_wide ≤ length t → mid_of (i * grain_wide) (i * grain_wide + grain_wide - i * grain_wide) t ≡ grain_reals (get_or gs i zero_g)
  grain_read i h = row_get grain_reals grain_wide (λ p. refl) (lit< tt) gs i zero_g G.is h

  pub grain_written : (i : ℕ) (p : Particle) {ys : List Float} → i * grain_wide + grain_wide ≤ length t → ys ≡ grain_reals p → Grained z (put_mid (i * grain_wide) (i * grain_wide + grain_wide - i * grain_wide) t ys) (set gs i p)
  grain_written i p h e = record { is = row_put grain_reals grain_wide (λ p. refl) (lit< tt) gs i zero_g p G.is h e; many = length-set gs i p ∙ G.many }
