-- The number of a contact is that of its root, and the plan is made of the contact. Assumes nothing.
use Prim.Native.Nat.{ℕ}
use mathlib.Core.Path.{◌≡◌, refl, sym, ap, ◌∙◌}
use mathlib.Core.Bool.{Bool, true, false, cond}
use lib.Ieee.{Float}
use Rattle.std.specs.Prelude.{Option, Some, None, Ok, Err, IsErr}
use Rattle.root.specs.Root.{root_of}
use Rattle.root.specs.Rule.{number as rootNumber}
use Rattle.myvec.specs.declared.MyVec.{MyVec}
use Rattle.myvec.specs.Vec.{vsub}
use Rattle.model.specs.declared.Domain.{Domain}
use Rattle.model.specs.declared.Particle.{Particle}
use Rattle.model.specs.declared.Event.{Event}
use Rattle.model.specs.declared.refusal.RootRefused.{RootRefused}
use Rattle.model.specs.Plans.{Contact, Plan, root_refused}
use Rattle.model.specs.Periodic.{apart}
use Rattle.model.specs.Stepping.{due}
use Rattle.model.specs.Reports.{answered, contact_told, plan_told}
use Rattle.model.specs.Collision.{reach, after_root, time_of, collide, struck, planned, collision}
use Rattle.model.proofs.Answers.{one_contact}

numbered : (a b : Float) (x : Option Float) → (contact_told (after_root a b x)).0 ≡ rootNumber x
unfolding answered
numbered a b None = refl
numbered a b (Some s) = go _ _
  where
    go : (t : Bool) (x : Float) → (contact_told (cond t (Ok None) (Ok (Some x)))).0 ≡ 0
    go true x = refl
    go false x = refl

pub told : (d a b : Float) (r : Contact) → contact_told r ≡ contact_told (time_of d a b)
    → record { result_value : contact_told r ≡ contact_told (time_of d a b); result_value_2 : (contact_told r).0 ≡ rootNumber (root_of d) }
told d a b r e = record { result_value = e; result_value_2 = ap (λ t. t.0) e ∙ numbered a b (root_of d) }

-- ---- of the grains i and j, which are p and q, in the cell c: h is the contact found
refused : (x : Plan) → IsErr x → x ≡ Err root_refused
refused (Ok o) e = cc
refused (Err _) e = refl

module _
    (b : Domain) (t : Float) (c i j : ℕ) (p q : Particle) (h : Contact) {s x v : MyVec} {rr : Float}
    (S : s ≡ vsub q.pos p.pos) (X : x ≡ apart b c s) (V : v ≡ vsub q.vel p.vel) (R : rr ≡ reach p q) (H : contact_told h ≡ contact_told (collide rr x v))
  where
    plan : (k : Contact) → h ≡ k → planned k t (struck b c i j p q) ≡ collision b t c i j p q
    unfolding collision
    plan k e = ap (λ (k : Contact). planned k t (struck b c i j p q)) (sym e ∙ one_contact _ _ H ∙ (λ u. collide (R u) (X u) (V u)) ∙ ap (λ (s : MyVec). collide (reach p q) (apart b c s) (vsub q.vel p.vel)) S)

    pub plan_none : {o : Option Float} → h ≡ Ok o → o ≡ None → plan_told (Ok None) ≡ plan_told (collision b t c i j p q)
    plan_none e n = ap plan_told (plan (Ok None) (e ∙ ap (λ o. Ok o) n))

    pub plan_refused : (r : Plan) {e : RootRefused} → h ≡ Err e → IsErr r → plan_told r ≡ plan_told (collision b t c i j p q)
    plan_refused r e f = ap plan_told (refused r f ∙ plan (Err root_refused) e)

    pub plan_due : {o : Option Float} {dt : Float} {e : Event} → h ≡ Ok o → o ≡ Some dt → e ≡ struck b c i j p q dt → plan_told (due t dt e) ≡ plan_told (collision b t c i j p q)
    plan_due {dt = dt} e n k = ap plan_told (ap (due t dt) k ∙ plan (Ok (Some dt)) (e ∙ ap (λ o. Ok o) n))
