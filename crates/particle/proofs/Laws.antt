-- The list of cells that spans stand for is the list of the rule. Assumes nothing.
use Prim.Native.Nat.{ℕ}
use mathlib.Core.Path.{◌≡◌, refl, sym, ap, ◌∙◌}
use mathlib.Core.Bool.{Bool, true, false, cond}
use mathlib.Core.List.{List, [], ◌∷◌, ◌++◌, map, append-nil, append_assoc}
use native.Mathlib.Nat.{sub_self}
use lib.Ieee.{Float, binary64, add, sub, lt}
use Rattle.order.specs.Numbers.{fzero}
use Rattle.model.specs.declared.Domain.{Domain}
use Rattle.model.specs.declared.Particle.{Particle}
use Rattle.model.specs.Grid.{length_of, across, cell_at}
use Rattle.model.specs.FromPToC.{up_from, between, reached, cells_at, cells_of_grain}
use Rattle.particle.specs.declared.Span.{Span}
use Rattle.particle.specs.Spans.{cells_in, joined, alone, spans_of}

-- ---- spans
alone_list : (p : Span) → cells_in (alone p) ≡ between p.lo p.hi
unfolding up_from
alone_list p = ap (λ (k : ℕ). between p.lo p.hi ++ up_from p.hi k) (sub_self p.hi) ∙ append-nil (between p.lo p.hi)

by_tests : (b c : Bool) (p q r s t : Span)
    → cells_in (cond b (joined p q) (cond c (joined r s) (alone t)))
    ≡ cond b (between p.lo p.hi ++ between q.lo q.hi) (cond c (between r.lo r.hi ++ between s.lo s.hi) (between t.lo t.hi))
by_tests true c p q r s t = refl
by_tests false true p q r s t = refl
by_tests false false p q r s t = alone_list t

pub spans_list : (l : Float) (n : ℕ) (rad x : Float) → cells_in (spans_of l n rad x) ≡ reached l n rad x
unfolding spans_of reached
spans_list l n rad x = by_tests (lt (sub binary64 x rad) fzero) (lt l (add binary64 x rad)) _ _ _ _ _

-- each span of direction 1, and in it each span of direction 0
pub grain_list : (b : Domain) (p : Particle)
    → cells_at b (cells_in (spans_of (length_of 0 b) (across 0 b) p.rad p.pos.x)) (cells_in (spans_of (length_of 1 b) (across 1 b) p.rad p.pos.y))
    ≡ cells_of_grain b p
unfolding cells_of_grain
grain_list b p = λ i.
    cells_at b (spans_list (length_of 0 b) (across 0 b) p.rad p.pos.x i) (spans_list (length_of 1 b) (across 1 b) p.rad p.pos.y i)

pub rows_append : (b : Domain) (is js ks : List ℕ) → cells_at b is (js ++ ks) ≡ cells_at b is js ++ cells_at b is ks
unfolding cells_at
rows_append b is [] ks = refl
rows_append b is (j ∷ js) ks = ap (λ (l : List ℕ). map (λ (i : ℕ). cell_at b i j) is ++ l) (rows_append b is js ks) ∙ sym (append_assoc (map (λ (i : ℕ). cell_at b i j) is) (cells_at b is js) (cells_at b is ks))
