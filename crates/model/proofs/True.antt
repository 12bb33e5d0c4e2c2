-- THE HISTORY IS TRUE: from cleared places each of its deeds was done where the one before left off, up to the state reached, and each try is of what its rule finds there,
-- with the grains that it is about stepped to the clock; every number is that of the act that put the event in, no two of a cell are equal, and a grain's velocity is the one
-- that its last turn gave. Assumes nothing.
use Prim.Native.Nat.{ℕ, zero, suc, ◌<◌}
use mathlib.Core.Path.{◌≡◌, refl, sym, ap, subst, ◌∙◌}
use mathlib.Core.List.{List, [], ◌∷◌, ◌++◌}
use mathlib.Core.Bool.{Bool, true, false, cond}
use native.Mathlib.Omega.{arith}
use native.Mathlib.Decide.{ℕ_discrete}
use lib.Dec.{eqb}
use lib.ListN.{length, get_or, set, drop, length-set, get_or-replicate, length-replicate}
use lib.Seq.{get_or-set_same, get_or-set_other}
use lib.Ieee.{Float, le}
use borrow.Author.Tests.{eq-eqb, ne_eqb, eqb-true}
use Rattle.halting.specs.Out.{Out, out, next}
use Rattle.halting.specs.Every.{All}
use Rattle.halting.proofs.All.{all_to}
use Rattle.model.specs.declared.Domain.{Domain}
use Rattle.model.specs.declared.Particle.{Particle}
use Rattle.model.specs.declared.Pending.{Pending}
use Rattle.std.specs.Prelude.{Some, None, Ok, Err}
use Rattle.model.specs.Events.{place_of}
use Rattle.model.specs.Stepping.{landed}
use Rattle.model.specs.State.{State, zero_g, grain, requeued}
use Rattle.model.specs.Acts.{first, taken, store, cancelled}
use Rattle.model.specs.Execute.{head_event, step}
use Rattle.model.specs.Grid.{cells}
use Rattle.model.specs.Start.{clear, begin}
use Rattle.model.specs.Reached.{Reached}
use Rattle.model.specs.Rows.{Rule, Act, moving, turning, trying, cancelling, entering, leaving, perform, Acts, ended, act, doing, acts_of, start_acts}
use Rattle.model.specs.History.{Deed, did, took, History, onto, row_done, step_done, start_done, history, Dated, dated_at, insert_dated, keep_dated, change, dated, named_by, last_of, given, Honest, Led}
use Rattle.model.proofs.Sound.{Stands}
use Rattle.model.proofs.Performs.{act_same}
use Rattle.model.proofs.Cases.{on_test, store_case, insert_case, enter_case, leave_case}
use Rattle.model.proofs.Told.{Tells, all_insert, all_keep, all_drop, all_change}
use Rattle.model.proofs.Steps.{head_ok}
use Rattle.model.proofs.Along.{Parts, reached_along}
use Rattle.model.proofs.AtClock.{Honestly, Any, sound_ranges, acts_honest, start_honest}

-- ---- a row whose acts are honest leads on
turn_led : (a : Act) (f : State → Acts) (s₀ s : State) (h : History) (r : ℕ) → (perform a s).num ≡ r → Led h s₀ s → Honest a s
    → ((perform a s).num ≡ 0 → Led (did a ∷ h) s₀ (perform a s).st → let u = (perform a s).st in Led (row_done (f u) u (did a ∷ h)) s₀ (doing (f u) u).st)
    → let u = (perform a s).st in Led (onto r a (row_done (f u) u) h) s₀ (next r u (λ v. doing (f v) v)).st
turn_led a f s₀ s h zero e l o k = k e (s, l, o, ap (λ (r : ℕ). out r (perform a s).st) e)
turn_led a f s₀ s h (suc r) e l o k = subst (λ (w : Out State). Led h s₀ w.st) (sym (act_same a s (λ z. omega (arith, e, z))).0) l

row_led : (w : Acts) (Q : State → Type 0) (s₀ s : State) (h : History) → Honestly w s Q → Led h s₀ s → Led (row_done w s h) s₀ (doing w s).st
unfolding row_done doing
row_led ended Q s₀ s h e l = l
row_led (act a f) Q s₀ s h e l = let u = (perform a s).st in turn_led a f s₀ s h (perform a s).num refl l e.0 (λ z. row_led (f u) Q s₀ u (did a ∷ h) (e.1 z))

-- ---- every reached state: from the cleared places of its start
step_led : (s₀ : State) (rate : Float) (s : State) (h : History) → Stands s → Tells h s → Parts rate s h → Led h s₀ s → Led (step_done rate s h) s₀ (step rate s).state
unfolding step_done
step_led s₀ rate s h st t p l =
    let row = acts_of rate (head_event s) (taken s) in
    let honest : Honestly row (taken s) Any = unfold taken requeued in acts_honest rate (head_event s) (cells s.box) (first s) (taken s) (sound_ranges s st.sound) (head_ok s st).named in
    rw p.left (row_led row Any s₀ (taken s) (took (first s) ∷ h) honest (s, l, refl, refl))

start_led : (b : Domain) (room : ℕ) (gs : List Particle) → Led (start_done b room gs) (clear b room (length gs)) (begin b room gs).st
unfolding start_done begin
start_led b room gs = let s = clear b room (length gs) in row_led (start_acts b gs s) Any s s [] (start_honest b room gs) refl

-- THE HISTORY OF A REACHED STATE LEADS TO IT
pub history_true : (s : State) (r : Reached s) → s.mark ≡ 0 → Led (history s r) (clear r.box r.room (length r.grains)) s
history_true s r m =
    let s₀ = clear r.box r.room (length r.grains) in
    reached_along (λ h. Led h s₀) (step_led s₀) s r (λ st o. start_led r.box r.room r.grains) m

-- ---- each pending event's number is that of the act that put it in
pub record PutBy (h : History) (c : ℕ) (d : Dated) : Type 0 where
  pub later : History
  pub earlier : History
  pub rule : Rule
  pub event : Pending
  pub is : h ≡ later ++ did (trying c rule (Ok (Some event))) ∷ earlier
  pub same : d.event ≡ place_of event
  pub number : d.by ≡ suc (length earlier)

put_on : (x : Deed) (h : History) (c : ℕ) (d : Dated) → PutBy h c d → PutBy (x ∷ h) c d
put_on x h c d p = record { later = x ∷ p.later; earlier = p.earlier; rule = p.rule; event = p.event; is = ap (λ (l : History). x ∷ l) p.is; same = p.same; number = p.number }

-- what holds of every event, and of the one that this deed puts in, holds of every event after it
module _ (P : Dated → Type 0) (n c : ℕ) (l : List Dated) (a : All P l) where
  on : (b : Bool) (x : List Dated) → (b ≡ true → All P x) → All P (cond b x l)
  on true x f = f refl
  on false x f = a

  pub all_put : (d : Deed) → ((k : ℕ) (r : Rule) (e : Pending) → d ≡ did (trying k r (Ok (Some e))) → k ≡ c → P (dated_at (place_of e) n)) → All P (change d n c l)
  all_put (did (moving i x t)) p = a
  all_put (did (turning i x)) p = a
  all_put (did (trying k r (Ok None))) p = a
  all_put (did (trying k r (Ok (Some e)))) p = on (eqb k c) (insert_dated (dated_at (place_of e) n) l) (λ q. all_insert P (dated_at (place_of e) n) l (p k r e refl (eqb-true k c q)) a)
  all_put (did (trying k r (Err _))) p = a
  all_put (did (cancelling i k)) p = on (eqb k c) _ (λ q. all_keep P _ l a)
  all_put (did (entering i k)) p = a
  all_put (did (leaving i k)) p = a
  all_put (took k) p = on (eqb k c) (drop 1 l) (λ q. all_drop P l a)

pub put_by : (h : History) (c : ℕ) → All (PutBy h c) (dated h c)
unfolding dated
put_by [] c = tt
put_by (x ∷ h) c =
    all_put (PutBy (x ∷ h) c) (suc (length h)) c (dated h c) (all_to (PutBy h c) (PutBy (x ∷ h) c) (dated h c) (put_on x h c) (put_by h c)) x
    (λ k r e q j. record { later = []; earlier = h; rule = r; event = e; is = ap (λ (d : Deed). d ∷ h) (q ∙ ap (λ (i : ℕ). did (trying i r (Ok (Some e)))) j); same = refl; number = refl })

-- ---- no two pending events of a cell have one number
abbrev pub Others : Dated → List Dated → Type 0
Others d l = All (λ x. d.by ≡ x.by → ⊥) l

abbrev pub Distinct : List Dated → Type 0
Distinct [] = Unit {0}
Distinct (d ∷ l) = Others d l × Distinct l

distinct_insert : (d : Dated) (l : List Dated) → All (λ x. x.by < d.by) l → Distinct l → Distinct (insert_dated d l)
unfolding insert_dated
distinct_insert d [] b o = (tt, tt)
distinct_insert d (x ∷ xs) b o = by (le x.event.time d.event.time) (distinct_insert d xs b.1 o.1)
  where
    by : (t : Bool) → Distinct (insert_dated d xs) → Distinct (cond t (x ∷ insert_dated d xs) (d ∷ x ∷ xs))
    by true i = (all_insert (λ y. x.by ≡ y.by → ⊥) d xs (λ e. let k = b.0 in omega (arith, e, k)) o.0, i)
    by false i = (all_to (λ y. y.by < d.by) (λ y. d.by ≡ y.by → ⊥) (x ∷ xs) (λ y k e. omega (arith, e, k)) b, o)

distinct_keep : (g : ℕ) (l : List Dated) → Distinct l → Distinct (keep_dated g l)
unfolding keep_dated
distinct_keep g [] o = tt
distinct_keep g (x ∷ xs) o = by (named_by x g) (distinct_keep g xs o.1)
  where
    by : (t : Bool) → Distinct (keep_dated g xs) → Distinct (cond t (keep_dated g xs) (x ∷ keep_dated g xs))
    by true i = i
    by false i = (all_keep (λ y. x.by ≡ y.by → ⊥) g xs o.0, i)

distinct_drop : (l : List Dated) → Distinct l → Distinct (drop 1 l)
distinct_drop [] o = tt
distinct_drop (x ∷ xs) o = o.1

distinct_change : (d : Deed) (n c : ℕ) (l : List Dated) → All (λ x. x.by < n) l → Distinct l → Distinct (change d n c l)
distinct_change (did (moving i x t)) n c l b o = o
distinct_change (did (turning i x)) n c l b o = o
distinct_change (did (trying k r (Ok None))) n c l b o = o
distinct_change (did (trying k r (Ok (Some e)))) n c l b o = on_test Distinct (eqb k c) (insert_dated (dated_at (place_of e) n) l) l (λ q. distinct_insert (dated_at (place_of e) n) l b o) (λ q. o)
distinct_change (did (trying k r (Err _))) n c l b o = o
distinct_change (did (cancelling i k)) n c l b o = on_test Distinct (eqb k c) _ l (λ q. distinct_keep _ l o) (λ q. o)
distinct_change (did (entering i k)) n c l b o = o
distinct_change (did (leaving i k)) n c l b o = o
distinct_change (took k) n c l b o = on_test Distinct (eqb k c) (drop 1 l) l (λ q. distinct_drop l o) (λ q. o)

numbers_below : (h : History) (c : ℕ) → All (λ x. x.by < suc (length h)) (dated h c)
unfolding dated
numbers_below [] c = tt
numbers_below (x ∷ h) c =
    all_change (λ y. y.by < suc (suc (length h))) x (suc (length h)) c (dated h c) (λ e. omega arith) (all_to (λ y. y.by < suc (length h)) (λ y. y.by < suc (suc (length h))) (dated h c) (λ y k. omega (arith, k)) (numbers_below h c))

pub distinct : (h : History) (c : ℕ) → Distinct (dated h c)
unfolding dated
distinct [] c = tt
distinct (x ∷ h) c = distinct_change x (suc (length h)) c (dated h c) (numbers_below h c) (distinct h c)

-- ---- a grain's velocity is the one that its last turn gave it
pub record Velocities (h : History) (s : State) : Type 0 where
  pub each : (g : ℕ) → g < length s.grains → (grain s g).vel ≡ given h g

module _ (s : State) (h : History) (v : Velocities h s) where
  same_grains_lem : (d : Deed) (u : State) → u.grains ≡ s.grains → ((g : ℕ) → given (d ∷ h) g ≡ given h g) → Velocities (d ∷ h) u
  same_grains_lem d u e k = record { each = λ g G. ap (λ (l : List Particle). (get_or l g zero_g).vel) e ∙ v.each g (subst (λ (l : List Particle). g < length l) e G) ∙ sym (k g) }

  -- p in the place of grain i
  stored : (d : Deed) (i : ℕ) (p : Particle) → (i < length s.grains → p.vel ≡ given (d ∷ h) i) → ((g : ℕ) → (g ≡ i → ⊥) → given (d ∷ h) g ≡ given h g) → (store i p s).num ≡ 0 → Velocities (d ∷ h) (store i p s).st
  stored d i p new old = store_case (λ o. o.num ≡ 0 → Velocities (d ∷ h) o.st) s i p (λ z. absurd (omega (arith, z))) (λ f z. record {
    each = λ g G.
        let G' : g < length s.grains = rw (← length-set s.grains i p) G in
        elim (ℕ_discrete g i) [
          | yes e ↦
              let I : i < length s.grains = rw (← e) G' in
              subst (λ (j : ℕ). (get_or (set s.grains i p) j zero_g).vel ≡ given (d ∷ h) j) (sym e) (ap (λ (q : Particle). q.vel) (get_or-set_same s.grains i p zero_g I) ∙ new I)
          | no n ↦ ap (λ (q : Particle). q.vel) (get_or-set_other s.grains i g p zero_g n) ∙ v.each g G' ∙ sym (old g n)
        ];
  })

  act_given : (a : Act) → (perform a s).num ≡ 0 → Velocities (did a ∷ h) (perform a s).st
  unfolding last_of
  act_given (moving i x t) = stored (did (moving i x t)) i (landed x t (grain s i)) (λ I. v.each i I) (λ g n. refl)
  act_given (turning i p) = stored (did (turning i p)) i p (λ I. rw (eq-eqb i i refl)) (λ g n. rw (ne_eqb i g (λ e. n (sym e))))
  act_given (trying k r (Ok None)) = λ z. same_grains_lem (did (trying k r (Ok None))) s refl (λ g. refl)
  act_given (trying k r (Err _)) = λ z. absurd (omega (arith, z))
  act_given (trying k r (Ok (Some e))) =
      insert_case (λ o. o.num ≡ 0 → Velocities (did (trying k r (Ok (Some e))) ∷ h) o.st) s k (place_of e) (λ z. absurd (omega (arith, z))) (λ f z. absurd (omega (arith, z)))
      (λ f y z. unfold requeued in same_grains_lem (did (trying k r (Ok (Some e)))) _ refl (λ g. refl))
  act_given (cancelling i k) = λ z. unfold cancelled requeued in same_grains_lem (did (cancelling i k)) _ refl (λ g. refl)
  act_given (entering i k) = enter_case (λ o. o.num ≡ 0 → Velocities (did (entering i k) ∷ h) o.st) s i k (λ b z. absurd (omega (arith, z))) (λ z. absurd (omega (arith, z))) (λ b c d z. same_grains_lem (did (entering i k)) _ refl (λ g. refl))
  act_given (leaving i k) = leave_case (λ o. o.num ≡ 0 → Velocities (did (leaving i k) ∷ h) o.st) s i k (λ z. absurd (omega (arith, z))) (λ b z. same_grains_lem (did (leaving i k)) _ refl (λ g. refl))

  taken_given : (k : ℕ) → Velocities (took k ∷ h) (taken s)
  unfolding taken requeued last_of
  taken_given k = same_grains_lem (took k) _ refl (λ g. refl)

-- along a history that leads from one state to another
led_given : (h : History) (s u : State) → Velocities [] s → Led h s u → Velocities h u
led_given [] s u v l = subst (Velocities []) l v
led_given (did a ∷ h) s u v l =
    subst (λ (o : Out State). Velocities (did a ∷ h) o.st) l.3 (act_given l.0 h (led_given h s l.0 v l.1) a (ap (λ (o : Out State). o.num) l.3))
led_given (took k ∷ h) s u v l = subst (Velocities (took k ∷ h)) l.3 (taken_given l.0 h (led_given h s l.0 v l.1) k)

clear_given : (b : Domain) (room n : ℕ) → Velocities [] (clear b room n)
unfolding clear last_of
clear_given b room n = record { each = λ g G. ap (λ (p : Particle). p.vel) (get_or-replicate n g zero_g zero_g (let e = length-replicate n zero_g in omega (arith, e))) }

-- A VELOCITY CHANGES ONLY AT A TURN
pub velocity_given : (s : State) (r : Reached s) → s.mark ≡ 0 → (g : ℕ) → g < length s.grains → (grain s g).vel ≡ given (history s r) g
velocity_given s r m = (led_given (history s r) (clear r.box r.room (length r.grains)) s (clear_given r.box r.room (length r.grains)) (history_true s r m)).each
