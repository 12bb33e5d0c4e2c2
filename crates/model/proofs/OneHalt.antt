-- ONLY ONE HALT FITS a row of acts: the number, the acts done, the refused act and the state left follow from the row and the state that it starts from, so that no
-- act of the row can be left out or done out of its turn. Assumes nothing.
use Prim.Native.Nat.{ℕ, ◌<◌}
use mathlib.Core.Path.{◌≡◌, refl, sym, ap, ◌∙◌}
use mathlib.Core.List.{List, [], ◌∷◌}
use native.Mathlib.Omega.{arith}
use lib.Ieee.{Float}
use Rattle.myvec.specs.declared.MyVec.{MyVec}
use Rattle.halting.specs.Out.{Out, out}
use Rattle.halting.proofs.Laws.{then_go, then_stop}
use Rattle.model.specs.declared.Event.TheVariants.{InterParticleCollision}
use Rattle.model.specs.Stepping.{renewed}
use Rattle.model.specs.State.{State, grain, marked}
use Rattle.model.specs.Rows.{Act, turning, perform, Acts, ended, act, doing, before, acts_of}
use Rattle.model.proofs.Halts.{Begins, HaltIn}

-- the first act of a row, and the first of acts done, or else the one refused
abbrev pub first_act : Acts → Act → Act
first_act ended a = a
first_act (act b f) a = b

abbrev pub first_of : List Act → Act → Act
first_of [] a = a
first_of (b ∷ xs) a = b

-- an act is not both done and refused
not_both : (a b : Act) (s u : State) (r : ℕ) → 0 < r → a ≡ b → s ≡ u → (perform a s).num ≡ 0 → perform b u ≡ out r u → ⊥
not_both a b s u r p e f d h = let z : 0 ≡ r = sym d ∙ (λ i. (perform (e i) (f i)).num) ∙ ap (λ (o : Out State). o.num) h in omega (arith, z, p)

-- two prefixes of a row, each up to an act that is refused, are one
same_prefix : (xs ys : List Act) (w : Acts) (s : State) (a b : Act) (f g : State → Acts) (u v : State) (r q : ℕ) → 0 < r → 0 < q
    → Begins xs w s (act a f) u → perform a u ≡ out r u → Begins ys w s (act b g) v → perform b v ≡ out q v → (xs ≡ ys) × (a ≡ b) × (u ≡ v)
same_prefix [] [] w s a b f g u v r q p k d e h i = (refl, ap (λ (x : Acts). first_act x a) (sym d.0 ∙ h.0), sym d.1 ∙ h.1)
same_prefix [] (y ∷ ys) ended s a b f g u v r q p k d e h i = absurd h
same_prefix [] (y ∷ ys) (act c l) s a b f g u v r q p k d e h i = absurd (not_both c a s u r p (ap (λ (x : Acts). first_act x a) d.0) d.1 h.1 e)
same_prefix (x ∷ xs) [] ended s a b f g u v r q p k d e h i = absurd d
same_prefix (x ∷ xs) [] (act c l) s a b f g u v r q p k d e h i = absurd (not_both c b s v q k (ap (λ (x : Acts). first_act x a) h.0) h.1 d.1 i)
same_prefix (x ∷ xs) (y ∷ ys) ended s a b f g u v r q p k d e h i = absurd d
same_prefix (x ∷ xs) (y ∷ ys) (act c l) s a b f g u v r q p k d e h i =
    let t = same_prefix xs ys (l (perform c s).st) (perform c s).st a b f g u v r q p k d.2 e h.2 i in
    ((λ j. (d.0 ∙ sym h.0) j ∷ t.0 j), t.1, t.2)

-- two halts in one row from one state are one: the number, the acts done, the refused act, the state left
pub one_halt : (w : Acts) (r q : ℕ) (s u v : State) (h : HaltIn w r s u) (k : HaltIn w q s v) → (r ≡ q) × (h.acts ≡ k.acts) × (h.refused_act ≡ k.refused_act) × (u ≡ v)
one_halt w r q s u v h k =
    let p : 0 < r = let a = h.five in omega (arith, a) in
    let o : 0 < q = let a = k.five in omega (arith, a) in
    let t = same_prefix h.acts k.acts w s h.refused_act k.refused_act h.later k.later h.at k.at r q p o h.did h.refuses k.did k.refuses in
    let n : r ≡ q = ap (λ (x : Out State). x.num) (sym h.refuses) ∙ (λ i. (perform (t.1 i) (t.2 i)).num) ∙ ap (λ (x : Out State). x.num) k.refuses in
    (n, t.0, t.1, h.left ∙ (λ i. marked (n i) (t.2 i)) ∙ sym k.left)

does_so : (xs : List Act) (w : Acts) (s : State) (a : Act) (f : State → Acts) (u : State) (r : ℕ) → 0 < r → Begins xs w s (act a f) u → perform a u ≡ out r u → doing w s ≡ out r u
unfolding doing
does_so [] w s a f u r p d e = (λ i. doing (d.0 i) (d.1 i)) ∙ then_stop r u (perform a u) (λ x. doing (f x) x) (sym e) (λ z. omega (arith, z, p))
does_so (x ∷ xs) ended s a f u r p d e = absurd d
does_so (x ∷ xs) (act b g) s a f u r p d e =
    then_go (perform b s).num (perform b s).st (perform b s) (λ y. doing (g y) y) refl d.1 ∙ does_so xs (g (perform b s).st) (perform b s).st a f u r p d.2 e

-- a halt in a row is what doing the row gives
pub halt_does : (w : Acts) (r : ℕ) (s v : State) (h : HaltIn w r s v) → doing w s ≡ out r h.at
halt_does w r s v h = does_so h.acts w s h.refused_act h.later h.at r (let a = h.five in omega (arith, a)) h.did h.refuses

begins_first : (xs : List Act) (w : Acts) (s : State) (a : Act) (f : State → Acts) (u : State) → Begins xs w s (act a f) u → first_of xs a ≡ first_act w a
begins_first [] w s a f u d = ap (λ (x : Acts). first_act x a) (sym d.0)
begins_first (x ∷ xs) ended s a f u d = absurd d
begins_first (x ∷ xs) (act b g) s a f u d = d.0

-- a halt in a row does the row's first act before all others, or that act is the refused one
pub first_first : (w : Acts) (r : ℕ) (s v : State) (h : HaltIn w r s v) → first_of h.acts h.refused_act ≡ first_act w h.refused_act
first_first w r s v h = begins_first h.acts w s h.refused_act h.later h.at h.did

-- so a collision that halts stored the first grain's numbers before all else, or halted at that: leaving it out fits no halt
pub collision_stores_first : (rate : Float) (p q : ℕ) (x y v w : MyVec) (k : Float) (r : ℕ) (s u : State) (h : HaltIn (acts_of rate (InterParticleCollision p q x y v w k) s) r s u)
    → first_of h.acts h.refused_act ≡ turning p (renewed x v s.clock k (grain s p))
collision_stores_first rate p q x y v w k r s u h = first_first (acts_of rate (InterParticleCollision p q x y v w k) s) r s u h ∙ (unfold before in refl)
