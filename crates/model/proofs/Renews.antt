-- A reflection and a collision, over the history: the grains are turned, then cancelled in all their cells, and what is left to do is scheduled where no pending event
-- names them. Assumes nothing.
use Prim.Native.Nat.{ℕ, ◌<◌}
use mathlib.Core.Path.{◌≡◌, refl, sym, ap, subst, ◌∙◌}
use mathlib.Core.Logic.{◌⊎◌, inl, inr}
use mathlib.Core.List.{List, [], ◌∷◌}
use lib.ListN.{length}
use Rattle.halting.specs.Out.{Out}
use Rattle.halting.specs.Every.{All}
use Rattle.model.specs.declared.Particle.{Particle}
use Rattle.model.specs.Grid.{cells}
use Rattle.model.specs.State.{State, home}
use Rattle.model.specs.Acts.{store}
use Rattle.model.specs.Doing.{forget}
use Rattle.model.specs.Rows.{Act, moving, turning, trying, cancelling, entering, leaving, perform, Acts, doing, only, ◌⨟◌, reschedules, forgets}
use Rattle.model.specs.History.{did, History, row_done}
use Rattle.model.proofs.Sound.{Sound}
use Rattle.model.proofs.Frame.{Keeps, keeps_on, store_keeps, same_clock}
use Rattle.model.proofs.Forgets.{Free, forget_free, forget_keeps, both_free}
use Rattle.model.proofs.Performs.{forget_is}
use Rattle.model.proofs.Told.{Tells, act_tells, done_tells, then_as, one_whole, every_each, done_keeps}

-- acts that give a velocity, and cancellings
abbrev pub Settles : Act → Type 0
Settles (moving g x t) = ⊥
Settles (turning g x) = Unit {0}
Settles (trying c r x) = ⊥
Settles (cancelling g c) = Unit {0}
Settles (entering g c) = ⊥
Settles (leaving g c) = ⊥

-- l is h with such acts in front
abbrev fronted : List Act → History → History
fronted [] h = h
fronted (a ∷ l) h = did a ∷ fronted l h

abbrev pub Settled : History → History → Type 0
Settled h l = (acts : List Act) × All Settles acts × (l ≡ fronted acts h)

settled_on : (h : History) (a : Act) (s : State) (l : History) → Settles a → (perform a s).num ≡ 0 → Settled h l → Settled h (did a ∷ l)
settled_on h a s l p z q = (a ∷ q.0, (p, q.1), ap (λ (k : History). did a ∷ k) q.2)

settled_forget : (h : History) (p : ℕ) (s : State) (l : History) → Settled h l → Settled h (row_done (forgets p s) s l)
settled_forget h p s l q = done_keeps Settles (Settled h) (settled_on h) (forgets p s) s l (every_each Settles (λ c. only (cancelling p c)) (home s p) s (λ c u. (tt, λ v. tt))) q

-- what such acts keep
pub settled_keeps : (Q : History → Type 0) → ((a : Act) (h : History) → Settles a → Q h → Q (did a ∷ h)) → (h l : History) → Settled h l → Q h → Q l
settled_keeps Q k h l q i = rw q.2 (by q.0 q.1)
  where
    by : (l : List Act) → All Settles l → Q (fronted l h)
    by [] p = i
    by (a ∷ l) p = k a (fronted l h) p.0 (by l p.1)

-- from s and h some acts led to `at` and `so`, where no pending event names a grain of P; the rest was done whole, and made the history l
pub record Renewed (P : ℕ → Type 0) (rest : State → Acts) (s : State) (h l : History) : Type 0 where
  pub at : State
  pub so : History
  pub keeps : Keeps s at
  pub tells : Tells so at
  pub settled : Settled h so
  pub free : (g : ℕ) → P g → (c : ℕ) → c < cells at.box → Free g c at
  pub whole : (doing (rest at) at).num ≡ 0
  pub told : l ≡ row_done (rest at) at so

-- the rows of a reflection and of a collision
abbrev pub reflects : ℕ → Particle → State → Acts
reflects p x = only (turning p x) ⨟ forgets p ⨟ reschedules p

abbrev pub collides : ℕ → Particle → ℕ → Particle → State → Acts
collides p x q y = only (turning p x) ⨟ only (turning q y) ⨟ forgets p ⨟ forgets q ⨟ reschedules p ⨟ reschedules q

module _ (p : ℕ) (x : Particle) (s : State) (h : History) (sound : Sound s) (t : Tells h s) (P : p < length s.grains) (X : x.time ≡ s.clock) where
  pub wall_renewed : (doing (reflects p x s) s).num ≡ 0 → Renewed (λ g. g ≡ p) (reschedules p) s h (row_done (reflects p x s) s h)
  wall_renewed z =
      let a = one_whole (turning p x) (forgets p ⨟ reschedules p) s h z in
      let s1 = (store p x s).st in
      let h1 = did (turning p x) ∷ h in
      let k1 = store_keeps s p x sound P (rw X (same_clock s sound)) in
      let P1 : p < length s1.grains = rw k1.frame.near.few P in
      let b = then_as (forgets p s1) (reschedules p) s1 h1 (forget p s1) ((forget_is p).same s1) a.second in
      let s2 = (forget p s1).st in
      let h2 = row_done (forgets p s1) s1 h1 in
      let k2 = forget_keeps p s1 k1.sound P1 in
      record {
        at = s2;
        so = h2;
        keeps = keeps_on s s1 s2 k1 k2;
        tells = subst (λ (o : Out State). Tells h2 o.st) ((forget_is p).same s1) (done_tells (forgets p s1) s1 h1 (act_tells h s t (turning p x) a.first));
        settled = settled_forget h p s1 h1 (turning p x ∷ [], (tt, tt), refl);
        free = λ g e c C. subst (λ (i : ℕ). Free i c s2) (sym e) (forget_free p s1 k1.sound P1 c (rw (← k2.frame.near.box) C));
        whole = b.second;
        told = a.told ∙ b.told;
      }

  module _ (q : ℕ) (y : Particle) (Q : q < length s.grains) (Y : y.time ≡ s.clock) where
    pub collision-renewed : (doing (collides p x q y s) s).num ≡ 0 → Renewed (λ g. (g ≡ p) ⊎ (g ≡ q)) (reschedules p ⨟ reschedules q) s h (row_done (collides p x q y s) s h)
    collision-renewed z =
        let a = one_whole (turning p x) (only (turning q y) ⨟ forgets p ⨟ forgets q ⨟ reschedules p ⨟ reschedules q) s h z in
        let s1 = (store p x s).st in
        let h1 = did (turning p x) ∷ h in
        let k1 = store_keeps s p x sound P (rw X (same_clock s sound)) in
        let Q1 : q < length s1.grains = rw k1.frame.near.few Q in
        let b = one_whole (turning q y) (forgets p ⨟ forgets q ⨟ reschedules p ⨟ reschedules q) s1 h1 a.second in
        let s2 = (store q y s1).st in
        let h2 = did (turning q y) ∷ h1 in
        let k2 = keeps_on s s1 s2 k1 (store_keeps s1 q y k1.sound Q1 (rw (Y ∙ sym k1.frame.near.clock) (same_clock s1 k1.sound))) in
        let P2 : p < length s2.grains = rw k2.frame.near.few P in
        let Q2 : q < length s2.grains = rw k2.frame.near.few Q in
        let c = then_as (forgets p s2) (forgets q ⨟ reschedules p ⨟ reschedules q) s2 h2 (forget p s2) ((forget_is p).same s2) b.second in
        let s3 = (forget p s2).st in
        let h3 = row_done (forgets p s2) s2 h2 in
        let k3 = keeps_on s s2 s3 k2 (forget_keeps p s2 k2.sound P2) in
        let Q3 : q < length s3.grains = rw k3.frame.near.few Q in
        let d = then_as (forgets q s3) (reschedules p ⨟ reschedules q) s3 h3 (forget q s3) ((forget_is q).same s3) c.second in
        let s4 = (forget q s3).st in
        let h4 = row_done (forgets q s3) s3 h3 in
        let k4 = keeps_on s s3 s4 k3 (forget_keeps q s3 k3.sound Q3) in
        let t2 : Tells h2 s2 = act_tells h1 s1 (act_tells h s t (turning p x) a.first) (turning q y) b.first in
        let t3 : Tells h3 s3 = subst (λ (o : Out State). Tells h3 o.st) ((forget_is p).same s2) (done_tells (forgets p s2) s2 h2 t2) in
        let both : (c : ℕ) → c < cells s4.box → Free p c s4 × Free q c s4 = λ i I. both_free p q s2 k2.sound P2 Q2 i (rw (k2.frame.near.box, ← k4.frame.near.box) I) in
        record {
          at = s4;
          so = h4;
          keeps = k4;
          tells = subst (λ (o : Out State). Tells h4 o.st) ((forget_is q).same s3) (done_tells (forgets q s3) s3 h3 t3);
          settled = settled_forget h q s3 h3 (settled_forget h p s2 h2 (turning q y ∷ turning p x ∷ [], (tt, (tt, tt)), refl));
          free = λ g m i I. elim m [ inl e ↦ subst (λ (j : ℕ). Free j i s4) (sym e) (both i I).0 | inr e ↦ subst (λ (j : ℕ). Free j i s4) (sym e) (both i I).1 ];
          whole = d.second;
          told = a.told ∙ b.told ∙ c.told ∙ d.told;
        }
