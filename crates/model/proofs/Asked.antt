-- What is pending by the last try of a rule, a pair's by the grain that asked, and what each deed leaves of that. Assumes nothing.
use Prim.Native.Nat.{ℕ, suc, ◌<◌}
use mathlib.Core.Path.{◌≡◌, refl, sym, ap, subst, ◌∙◌}
use mathlib.Core.List.{[], ◌∷◌}
use mathlib.Core.Bool.{Bool, true, false, ◌&&◌, cond, and-false}
use native.Mathlib.Omega.{arith}
use lib.Dec.{eqb}
use lib.ListN.{length}
use borrow.Author.Tests.{eqb-true, eq-eqb}
use Rattle.halting.specs.Every.{All}
use Rattle.halting.proofs.Bools.{clash, differ, and_l, and_r, or_case}
use Rattle.halting.proofs.All.{all_to, all_both}
use Rattle.model.specs.declared.Pending.{Pending}
use Rattle.std.specs.Prelude.{Some, None, Ok, Err}
use Rattle.model.specs.Plans.{Plan}
use Rattle.model.specs.Events.{place_of}
use Rattle.model.specs.State.{State}
use Rattle.model.specs.declared.Bound.{Bound}
use Rattle.model.specs.declared.Bound.TheVariants.{ToNeighbour, OutOfCell, Wall}
use Rattle.model.specs.Rows.{about, Rule, pair, bound, sync, moving, turning, trying, cancelling, entering, leaving}
use Rattle.model.specs.History.{Deed, did, took, History, latest, last_of, Dated, dated_at, named_by, dated}
use Rattle.model.specs.Missing.{enters, arrived, same_bound, same_rule, plan_of, asker, asks, asked, Owes, Owed}
use Rattle.model.proofs.True.{all_put}
use Rattle.model.proofs.Told.{latest_below, all_change}
use Rattle.model.proofs.Tries.{kind_of, Fits}

-- ---- a rule that is asked for is that rule
abbrev pub This : Rule → Rule → Bool
This r o = same_rule r o && eqb (asker r) (asker o)

same_bound_lem : (b x : Bound) → same_bound b x ≡ true → b ≡ x
same_bound_lem ToNeighbour ToNeighbour e = refl
same_bound_lem ToNeighbour OutOfCell e = clash e
same_bound_lem ToNeighbour Wall e = clash e
same_bound_lem OutOfCell ToNeighbour e = clash e
same_bound_lem OutOfCell OutOfCell e = refl
same_bound_lem OutOfCell Wall e = clash e
same_bound_lem Wall ToNeighbour e = clash e
same_bound_lem Wall OutOfCell e = clash e
same_bound_lem Wall Wall e = refl

pub this_is : (r o : Rule) → This r o ≡ true → r ≡ o
this_is (pair p q) (pair i j) e =
    let a = eqb-true p i (and_r (same_rule (pair p q) (pair i j)) (eqb p i) e) in
    or_case (eqb p i && eqb q j) (eqb p j && eqb q i) (pair p q ≡ pair i j) (and_l (same_rule (pair p q) (pair i j)) (eqb p i) e)
    (λ k. let b = eqb-true q j (and_r (eqb p i) (eqb q j) k) in λ t. pair (a t) (b t))
    (λ k. let b = eqb-true q i (and_r (eqb p j) (eqb q i) k) ∙ sym a ∙ eqb-true p j (and_l (eqb p j) (eqb q i) k) in λ t. pair (a t) (b t))
this_is (pair p q) (bound b i d) e = clash e
this_is (pair p q) sync e = clash e
this_is (bound b p d) (pair i j) e = clash e
this_is (bound b p d) (bound x i n) e =
    let s = and_l (same_bound b x && (eqb p i && eqb d n)) (eqb p i) e in
    let m = and_r (same_bound b x) (eqb p i && eqb d n) s in
    let k = same_bound_lem b x (and_l (same_bound b x) (eqb p i && eqb d n) s) in
    let a = eqb-true p i (and_l (eqb p i) (eqb d n) m) in
    let c = eqb-true d n (and_r (eqb p i) (eqb d n) m) in
    λ t. bound (k t) (a t) (c t)
this_is (bound b p d) sync e = clash e
this_is sync (pair i j) e = clash e
this_is sync (bound x i n) e = clash e
this_is sync sync e = refl

this_self : (r : Rule) → This r r ≡ true
this_self (pair p q) = rw (eq-eqb p p refl, eq-eqb q q refl)
this_self (bound ToNeighbour p d) = rw (eq-eqb p p refl, eq-eqb d d refl)
this_self (bound OutOfCell p d) = rw (eq-eqb p p refl, eq-eqb d d refl)
this_self (bound Wall p d) = rw (eq-eqb p p refl, eq-eqb d d refl)
this_self sync = refl

-- one deed asks for one rule
deed_is : (d : Deed) (c : ℕ) (r o : Rule) → asks c r d ≡ true → asks c o d ≡ true → r ≡ o
deed_is (did (moving i x t)) c r o a b = clash a
deed_is (did (turning i p)) c r o a b = clash a
deed_is (did (trying k q x)) c r o a b = this_is r q (and_r (eqb k c) (This r q) a) ∙ sym (this_is o q (and_r (eqb k c) (This o q) b))
deed_is (did (cancelling i k)) c r o a b = clash a
deed_is (did (entering i k)) c r o a b = clash a
deed_is (did (leaving i k)) c r o a b = clash a
deed_is (took k) c r o a b = clash a

-- rules last asked for by one deed are one
asked_is : (h : History) (c : ℕ) (r o : Rule) → 0 < asked h c r → asked h c r ≡ asked h c o → r ≡ o
unfolding latest
asked_is [] c r o p e = absurd (omega (arith, p))
asked_is (d ∷ h) c r o p e = by (asks c r d) refl (asks c o d) refl p e (asked_is h c r o)
  where
    by : (a : Bool) → asks c r d ≡ a → (b : Bool) → asks c o d ≡ b → 0 < cond a (suc (length h)) (asked h c r) → cond a (suc (length h)) (asked h c r) ≡ cond b (suc (length h)) (asked h c o)
        → (0 < asked h c r → asked h c r ≡ asked h c o → r ≡ o) → r ≡ o
    by true x true y p e i = deed_is d c r o x y
    by true x false y p e i = absurd (let k = latest_below (asks c o) h in omega (arith, e, k))
    by false x true y p e i = absurd (let k = latest_below (asks c r) h in omega (arith, e, k))
    by false x false y p e i = i p e

-- what was found was asked for
abbrev is_due : Plan → Bool
is_due (Ok None) = false
is_due (Ok (Some e)) = true
is_due (Err _) = false

found_some : (t : Deed → Bool) (h : History) (e : Pending) → last_of (Ok None) plan_of t h ≡ Ok (Some e) → 0 < latest t h
unfolding latest last_of
found_some t [] e q = clash (ap is_due q)
found_some t (d ∷ h) e q = by (t d) q (found_some t h e)
  where
    by : (b : Bool) → cond b (plan_of d) (last_of (Ok None) plan_of t h) ≡ Ok (Some e) → (last_of (Ok None) plan_of t h ≡ Ok (Some e) → 0 < latest t h) → 0 < cond b (suc (length h)) (latest t h)
    by true q i = omega arith
    by false q i = i q

-- ---- what is owed, and that its event is of the rule's kind and names the rule's grains
pub record Mine (h : History) (s : State) (c : ℕ) (d : Dated) : Type 0 where
  pub owed : Owed h s c d
  pub fits : Fits owed.rule (Ok (Some owed.event))

-- in each of n cells
abbrev pub AllMine : ℕ → State → History → Type 0
AllMine n s h = (c : ℕ) → c < n → All (Mine h s c) (dated h c)

-- no pending event of the cell is of the last try of r
abbrev pub Clean : History → ℕ → Rule → Type 0
Clean h c r = All (λ d. d.by ≡ asked h c r → ⊥) (dated h c)

-- a deed that does not ask for its rule, and lets none of its grains enter
mine_same : (d : Deed) (h : History) (s : State) (c : ℕ) (x : Dated) (m : Mine h s c x) → asks c m.owed.rule d ≡ false → ((g : ℕ) → about m.owed.rule g ≡ true → enters g c d ≡ false) → Mine (d ∷ h) s c x
unfolding latest last_of
mine_same d h s c x m a e =
    let o = m.owed in
    record {
      owed = record {
        rule = o.rule;
        event = o.event;
        owes = o.owes;
        finds = ap (λ (b : Bool). cond b (plan_of d) (last_of (Ok None) plan_of (asks c o.rule) h)) a ∙ o.finds;
        is = o.is ∙ ap (λ (b : Bool). dated_at (place_of o.event) (cond b (suc (length h)) (asked h c o.rule))) (sym a);
        since = λ g i. subst (λ (b : Bool). cond b (suc (length h)) (arrived h g c) < x.by) (sym (e g i)) (o.since g i);
      };
      fits = m.fits;
    }

module _ (n : ℕ) (s : State) (h : History) (mine : AllMine n s h) where
  -- a deed that tries nothing and lets none enter
  pub mine_quiet : (d : Deed) → ((c : ℕ) (r : Rule) → asks c r d ≡ false) → ((g c : ℕ) → enters g c d ≡ false) → AllMine n s (d ∷ h)
  unfolding dated
  mine_quiet d a e c C =
      all_put (Mine (d ∷ h) s c) (suc (length h)) c (dated h c) (all_to (Mine h s c) (Mine (d ∷ h) s c) (dated h c) (λ x m. mine_same d h s c x m (a c m.owed.rule) (λ g i. e g c)) (mine c C)) d
      (λ k r x q j. differ (ap (asks c r) q ∙ (rw (j, eq-eqb c c refl) (this_self r))) (a c r))

  -- an entry into a cell where nothing names the grain
  pub mine_enter : (i k : ℕ) → (k < n → All (λ d. named_by d i ≡ false) (dated h k)) → AllMine n s (did (entering i k) ∷ h)
  unfolding dated
  mine_enter i k free c C = by (eqb k c) refl
    where
      by : (b : Bool) → eqb k c ≡ b → All (Mine (did (entering i k) ∷ h) s c) (dated h c)
      by false q = all_to (Mine h s c) (Mine (did (entering i k) ∷ h) s c) (dated h c) (λ x m. mine_same (did (entering i k)) h s c x m refl (λ g w. rw q (and-false (eqb i g)))) (mine c C)
      by true q =
          let kc = eqb-true k c q in
          let f : All (λ d. named_by d i ≡ false) (dated h c) = subst (λ (j : ℕ). All (λ d. named_by d i ≡ false) (dated h j)) kc (free (rw kc C)) in
          all_to (λ x. Mine h s c x × (named_by x i ≡ false)) (Mine (did (entering i k) ∷ h) s c) (dated h c)
          (λ x m. mine_same (did (entering i k)) h s c x m.0 refl (away x m.0 m.1)) (all_both (Mine h s c) (λ d. named_by d i ≡ false) (dated h c) (mine c C) f)
        where
          away : (x : Dated) (m : Mine h s c x) → named_by x i ≡ false → (g : ℕ) → about m.owed.rule g ≡ true → (eqb i g && eqb k c) ≡ false
          away x m f g w = on (eqb i g) refl
            where
              on : (b : Bool) → eqb i g ≡ b → (b && eqb k c) ≡ false
              on false e = refl
              on true e = differ (ap (λ (d : Dated). named_by d i) m.owed.is ∙ m.fits.1 i ∙ ap (about m.owed.rule) (eqb-true i g e) ∙ w) f

  -- a try of a rule that the cell owes, and of whose last try there nothing is pending
  pub mine_try : (k : ℕ) (o : Rule) (x : Plan) → Fits o x → Owes s k o → Clean h k o → AllMine n s (did (trying k o x) ∷ h)
  unfolding latest last_of dated
  mine_try k o x fit owes clean c C =
      all_put (Mine (did (trying k o x) ∷ h) s c) (suc (length h)) c (dated h c) (old (eqb k c) refl) (did (trying k o x)) new
    where
      others : (eqb k c ≡ true → All (λ d. d.by ≡ asked h c o → ⊥) (dated h c)) → (d : Dated) → (eqb k c ≡ true → d.by ≡ asked h c o → ⊥) → (m : Mine h s c d) → (eqb k c && This m.owed.rule o) ≡ false
      others f d no' m = on (eqb k c) refl (This m.owed.rule o) refl
        where
          on : (a : Bool) → eqb k c ≡ a → (b : Bool) → This m.owed.rule o ≡ b → (a && b) ≡ false
          on false e b g = refl
          on true e false g = refl
          on true e true g = absurd (no' e (ap (λ (y : Dated). y.by) m.owed.is ∙ ap (asked h c) (this_is m.owed.rule o g)))

      old : (b : Bool) → eqb k c ≡ b → All (Mine (did (trying k o x) ∷ h) s c) (dated h c)
      old false e =
          all_to (Mine h s c) (Mine (did (trying k o x) ∷ h) s c) (dated h c)
          (λ d m. mine_same (did (trying k o x)) h s c d m (ap (λ (b : Bool). b && This m.owed.rule o) e) (λ g w. refl)) (mine c C)
      old true e =
          let f : All (λ d. d.by ≡ asked h c o → ⊥) (dated h c) = subst (λ (j : ℕ). Clean h j o) (eqb-true k c e) clean in
          all_to (λ d. Mine h s c d × (d.by ≡ asked h c o → ⊥)) (Mine (did (trying k o x) ∷ h) s c) (dated h c)
          (λ d m. mine_same (did (trying k o x)) h s c d m.0 (others (λ q. f) d (λ q. m.1) m.0) (λ g w. refl)) (all_both (Mine h s c) (λ d. d.by ≡ asked h c o → ⊥) (dated h c) (mine c C) f)

      new : (j : ℕ) (r : Rule) (e : Pending) → did (trying k o x) ≡ did (trying j r (Ok (Some e))) → j ≡ c → Mine (did (trying k o x) ∷ h) s c (dated_at (place_of e) (suc (length h)))
      new j r e q jc =
          let kc : k ≡ c = ap cell_of q ∙ jc in
          let xe : x ≡ Ok (Some e) = ap plan_of q in
          let me : (eqb k c && This o o) ≡ true = rw (kc, eq-eqb c c refl) (this_self o) in
          record {
            owed = record {
              rule = o;
              event = e;
              owes = subst (λ (i : ℕ). Owes s i o) kc owes;
              finds = ap (λ (b : Bool). cond b x (last_of (Ok None) plan_of (asks c o) h)) me ∙ xe;
              is = ap (λ (b : Bool). dated_at (place_of e) (cond b (suc (length h)) (asked h c o))) (sym me);
              since = λ g w. let k = latest_below (enters g c) h in omega (arith, k);
            };
            fits = subst (Fits o) xe fit;
          }
        where
          cell_of : Deed → ℕ
          cell_of (did (moving i x t)) = 0
          cell_of (did (turning i p)) = 0
          cell_of (did (trying k r x)) = k
          cell_of (did (cancelling i k)) = k
          cell_of (did (entering i k)) = k
          cell_of (did (leaving i k)) = k
          cell_of (took k) = k

  -- other lists, by which the cells still owe the rules of what is pending; P may help to know it
  pub mine_lists : (u : State) (P : ℕ → Dated → Type 0) → ((c : ℕ) → c < n → All (P c) (dated h c)) → ((c : ℕ) → c < n → (d : Dated) → P c d → (m : Mine h s c d) → Owes u c m.owed.rule) → AllMine n u h
  mine_lists u P p f c C =
      all_to (λ d. Mine h s c d × P c d) (Mine h u c) (dated h c)
      (λ d w.
      let m = w.0 in
      let o = m.owed in
      record { owed = record { rule = o.rule; event = o.event; owes = f c C d w.1 m; finds = o.finds; is = o.is; since = o.since }; fits = m.fits })
      (all_both (Mine h s c) (P c) (dated h c) (mine c C) (p c C))

  -- where nothing could be a find of r
  pub clean_by : (c : ℕ) → c < n → (r : Rule) → All (λ d. d.event.kind ≡ kind_of r → ((g : ℕ) → named_by d g ≡ about r g) → ⊥) (dated h c) → Clean h c r
  clean_by c C r a =
      all_to (λ d. Mine h s c d × (d.event.kind ≡ kind_of r → ((g : ℕ) → named_by d g ≡ about r g) → ⊥)) (λ d. d.by ≡ asked h c r → ⊥) (dated h c)
      (λ d m q.
      let o = m.0.owed in
      let e : o.rule ≡ r = asked_is h c o.rule r (found_some (asks c o.rule) h o.event o.finds) (ap (λ (y : Dated). y.by) (sym o.is) ∙ q) in
      m.1 (ap (λ (y : Dated). y.event.kind) o.is ∙ m.0.fits.0 ∙ ap kind_of e) (λ g. ap (λ (y : Dated). named_by y g) o.is ∙ m.0.fits.1 g ∙ ap (λ (z : Rule). about z g) e))
      (all_both (Mine h s c) _ (dated h c) (mine c C) a)

  -- where nothing names a grain of r
  pub clean_free : (c : ℕ) → c < n → (r : Rule) (g : ℕ) → about r g ≡ true → All (λ d. named_by d g ≡ false) (dated h c) → Clean h c r
  clean_free c C r g w f = clean_by c C r (all_to (λ d. named_by d g ≡ false) (λ d. d.event.kind ≡ kind_of r → ((g : ℕ) → named_by d g ≡ about r g) → ⊥) (dated h c) (λ d e k n'. differ (n' g ∙ w) e) f)

-- nothing is of a rule's last try as long as it is not asked for again
pub clean_on : (d : Deed) (h : History) (c : ℕ) (r : Rule) → asks c r d ≡ false → Clean h c r → Clean (d ∷ h) c r
unfolding latest dated
clean_on d h c r e a =
    let below = latest_below (asks c r) h in
    subst (λ (b : Bool). All (λ x. x.by ≡ cond b (suc (length h)) (asked h c r) → ⊥) (dated (d ∷ h) c)) (sym e)
    (all_change (λ x. x.by ≡ asked h c r → ⊥) d (suc (length h)) c (dated h c) (λ p q. omega (arith, below, q)) a)
