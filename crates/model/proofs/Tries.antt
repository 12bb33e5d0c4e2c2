-- What is watched of a rule in a cell, and what each deed leaves of it: a try makes it, and acts that spare the rule keep it. Assumes nothing.
use Prim.Native.Nat.{ℕ, suc}
use mathlib.Core.Path.{◌≡◌, refl, sym, ap, subst, ◌∙◌}
use mathlib.Core.Logic.{◌⊎◌, inl, inr}
use mathlib.Core.List.{List, [], ◌∷◌}
use mathlib.Core.Bool.{Bool, true, false, ◌&&◌, ◌||◌, cond, or-true, and-false, or_comm}
use native.Mathlib.Omega.{arith}
use lib.Dec.{eqb}
use lib.ListN.{length, drop}
use lib.Ieee.{le}
use borrow.Author.Tests.{eqb-true, eq-eqb}
use Rattle.halting.proofs.Bools.{clash, differ, and_l, and_r, or_case}
use Rattle.model.specs.declared.Place.{Place}
use Rattle.model.specs.declared.Pending.{Pending}
use Rattle.std.specs.Prelude.{Some, None, Ok, Err}
use Rattle.model.specs.Plans.{Plan}
use Rattle.model.specs.Events.{place_of, event_of, names}
use Rattle.model.specs.State.{State}
use Rattle.model.specs.declared.Bound.{Bound}
use Rattle.model.specs.declared.Bound.TheVariants.{ToNeighbour, OutOfCell, Wall}
use Rattle.model.specs.Rows.{Rule, pair, bound, sync, about, Act, moving, turning, trying, cancelling, entering, leaving, perform, Acts}
use Rattle.model.specs.History.{Deed, did, took, History, row_done, latest, last_of, turns, Dated, dated_at, named_by, insert_dated, keep_dated, put_in, dated}
use Rattle.model.specs.Missing.{enters, same_bound, same_rule, tries, plan_of, tried, found, head_number, draws, executed, Among, Entry, Stays, Watched}
use Rattle.model.proofs.Told.{latest_below, Every, done_keeps}

-- ---- what a rule finds is of its kind, and names the grains that the rule is about
abbrev pub kind_of : Rule → ℕ
kind_of (pair p q) = 1
kind_of (bound ToNeighbour p d) = 2
kind_of (bound OutOfCell p d) = 3
kind_of (bound Wall p d) = 4
kind_of sync = 5

abbrev pub Fits : Rule → Plan → Type 0
Fits r (Ok None) = Unit {0}
Fits r (Ok (Some e)) = ((place_of e).kind ≡ kind_of r) × ((g : ℕ) → names (event_of (place_of e).kind (place_of e)) g ≡ about r g)
Fits r (Err _) = Unit {0}

-- what is watched of a cell's rule, with that
pub record Kept (h : History) (c : ℕ) (r : Rule) : Type 0 where
  pub watched : Watched h c r
  pub fits : Fits r (found h c r)

-- ---- the same rule
same_fits : (r o : Rule) (x : Plan) → same_rule r o ≡ true → Fits o x → Fits r x
same_fits r o (Ok None) e f = tt
same_fits r o (Err _) e f = tt
same_fits r o (Ok (Some d)) e f = (f.0 ∙ kinds r o e, λ g. f.1 g ∙ abouts r o e g)
  where
    bounds : (b x : Bound) (p i m n : ℕ) → (same_bound b x && (eqb p i && eqb m n)) ≡ true → kind_of (bound x i n) ≡ kind_of (bound b p m)
    bounds ToNeighbour ToNeighbour p i m n e = refl
    bounds ToNeighbour OutOfCell p i m n e = clash e
    bounds ToNeighbour Wall p i m n e = clash e
    bounds OutOfCell ToNeighbour p i m n e = clash e
    bounds OutOfCell OutOfCell p i m n e = refl
    bounds OutOfCell Wall p i m n e = clash e
    bounds Wall ToNeighbour p i m n e = clash e
    bounds Wall OutOfCell p i m n e = clash e
    bounds Wall Wall p i m n e = refl

    kinds : (r o : Rule) → same_rule r o ≡ true → kind_of o ≡ kind_of r
    kinds (pair p q) (pair i j) e = refl
    kinds (pair p q) (bound b i n) e = clash e
    kinds (pair p q) sync e = clash e
    kinds (bound b p m) (pair i j) e = clash e
    kinds (bound b p m) (bound x i n) e = bounds b x p i m n e
    kinds (bound b p m) sync e = clash e
    kinds sync (pair i j) e = clash e
    kinds sync (bound x i n) e = clash e
    kinds sync sync e = refl

    abouts : (r o : Rule) → same_rule r o ≡ true → (g : ℕ) → about o g ≡ about r g
    abouts (pair p q) (pair i j) e g =
        or_case (eqb p i && eqb q j) (eqb p j && eqb q i) ((eqb i g || eqb j g) ≡ (eqb p g || eqb q g)) e
        (λ k. rw (eqb-true p i (and_l (eqb p i) (eqb q j) k), eqb-true q j (and_r (eqb p i) (eqb q j) k)))
        (λ k. rw (eqb-true p j (and_l (eqb p j) (eqb q i) k), eqb-true q i (and_r (eqb p j) (eqb q i) k)) (or_comm (eqb i g) (eqb j g)))
    abouts (pair p q) (bound b i n) e g = clash e
    abouts (pair p q) sync e g = clash e
    abouts (bound b p m) (pair i j) e g = clash e
    abouts (bound b p m) (bound x i n) e g = rw (eqb-true p i (and_l (eqb p i) (eqb m n) (and_r (same_bound b x) (eqb p i && eqb m n) e)))
    abouts (bound b p m) sync e g = clash e
    abouts sync (pair i j) e g = clash e
    abouts sync (bound x i n) e g = clash e
    abouts sync sync e g = refl

-- ---- one of some events
among_insert : (d x : Dated) (l : List Dated) → Among d l → Among d (insert_dated x l)
unfolding insert_dated
among_insert d x [] a = absurd a
among_insert d x (y ∷ ys) a = by (le y.event.time x.event.time) a (among_insert d x ys)
  where
    by : (b : Bool) → (d ≡ y) ⊎ Among d ys → (Among d ys → Among d (insert_dated x ys)) → Among d (cond b (y ∷ insert_dated x ys) (x ∷ y ∷ ys))
    by true (inl e) i = inl e
    by true (inr m) i = inr (i m)
    by false m i = inr m

among_new : (x : Dated) (l : List Dated) → Among x (insert_dated x l)
unfolding insert_dated
among_new x [] = inl refl
among_new x (y ∷ ys) = by (le y.event.time x.event.time) (among_new x ys)
  where
    by : (b : Bool) → Among x (insert_dated x ys) → Among x (cond b (y ∷ insert_dated x ys) (x ∷ y ∷ ys))
    by true i = inr i
    by false i = inl refl

among_keep : (d : Dated) (g : ℕ) (l : List Dated) → named_by d g ≡ false → Among d l → Among d (keep_dated g l)
unfolding keep_dated
among_keep d g [] n a = absurd a
among_keep d g (y ∷ ys) n a = by (named_by y g) refl a (among_keep d g ys n)
  where
    by : (b : Bool) → named_by y g ≡ b → (d ≡ y) ⊎ Among d ys → (Among d ys → Among d (keep_dated g ys)) → Among d (cond b (keep_dated g ys) (y ∷ keep_dated g ys))
    by true e (inl q) i = differ (ap (λ (x : Dated). named_by x g) q ∙ e) n
    by true e (inr m) i = i m
    by false e (inl q) i = inl q
    by false e (inr m) i = inr (i m)

-- ---- acts that leave what is watched of rule r in cell c
abbrev pub Spares : ℕ → Rule → Act → Type 0
Spares c r (moving i x t) = Unit {0}
Spares c r (turning i p) = about r i ≡ false
Spares c r (trying k o x) = Fits o x
Spares c r (cancelling i k) = (eqb k c && about r i) ≡ false
Spares c r (entering i k) = (eqb k c && about r i) ≡ false
Spares c r (leaving i k) = Unit {0}

-- a deed that tries another rule, turns none of the grains and lets none enter, and after which what was found is still there or was taken out
module _ (d : Deed) (h : History) (c : ℕ) (r : Rule) (other : tries c r d ≡ false) where
  abbrev Held : Type 0
  Held = (e : Pending) (n : ℕ) → Fits r (Ok (Some e)) → Among (dated_at (place_of e) n) (dated h c) → Among (dated_at (place_of e) n) (dated (d ∷ h) c) ⊎ (Entry r × (draws d c n (dated h c) ≡ true))

  same_tried : tried (d ∷ h) c r ≡ tried h c r
  unfolding latest
  same_tried = ap (λ (b : Bool). cond b (suc (length h)) (tried h c r)) other

  same_found : found (d ∷ h) c r ≡ found h c r
  unfolding last_of
  same_found = ap (λ (b : Bool). cond b (plan_of d) (found h c r)) other

  stays_on : Held → (x : Plan) → Fits r x → Stays h c r x → Stays (d ∷ h) c r x
  unfolding executed
  stays_on k (Ok None) f s = tt
  stays_on k (Err _) f s = s
  stays_on k (Ok (Some e)) f s = rw same_tried (by s)
    where
      n : ℕ
      n = tried h c r

      kept : Among (dated_at (place_of e) (tried h c r)) (dated (d ∷ h) c) ⊎ (Entry r × (draws d c (tried h c r) (dated h c) ≡ true))
          → Among (dated_at (place_of e) (tried h c r)) (dated (d ∷ h) c) ⊎ (Entry r × ((draws d c (tried h c r) (dated h c) || executed h c (tried h c r)) ≡ true))
      kept (inl a) = inl a
      kept (inr a) = inr (a.0, rw a.1)

      by : Among (dated_at (place_of e) (tried h c r)) (dated h c) ⊎ (Entry r × (executed h c (tried h c r) ≡ true)) → Among (dated_at (place_of e) (tried h c r)) (dated (d ∷ h) c) ⊎ (Entry r × ((draws d c (tried h c r) (dated h c) || executed h c (tried h c r)) ≡ true))
      by (inl a) = kept (k e (tried h c r) f a)
      by (inr a) = inr (a.0, rw a.1 (or-true (draws d c (tried h c r) (dated h c))))

  carry : ((g : ℕ) → about r g ≡ true → (turns g d ≡ false) × (enters g c d ≡ false)) → Held → Kept h c r → Kept (d ∷ h) c r
  unfolding latest
  carry away k w = record {
    watched = record {
      since = λ g i. let s = w.watched.since g i in let t = same_tried in (
        rw (t, (away g i).0) s.0,
        rw (t, (away g i).1) s.1,
      );
      stays = rw same_found (stays_on k (found h c r) w.fits w.watched.stays);
    };
    fits = rw same_found w.fits;
  }

-- a try that was done is watched from then on
pub tried_now : (k : ℕ) (o : Rule) (x : Plan) (s : State) (h : History) (c : ℕ) (r : Rule) → tries c r (did (trying k o x)) ≡ true → Fits o x → (perform (trying k o x) s).num ≡ 0 → Kept (did (trying k o x) ∷ h) c r
unfolding latest last_of dated
tried_now k o x s h c r e f z = record {
  watched = record {
    since = λ g i. let a = latest_below (turns g) h in let b = latest_below (enters g c) h in rw e (omega (arith, a), omega (arith, b));
    stays = subst (λ (y : Plan). Stays (did (trying k o x) ∷ h) c r y) (sym now) (there x z);
  };
  fits = subst (Fits r) (sym now) (same_fits r o x (and_r (eqb k c) (same_rule r o) e) f);
}
  where
    now : cond (eqb k c && same_rule r o) x (found h c r) ≡ x
    now = ap (λ (b : Bool). cond b x (found h c r)) e

    there : (y : Plan) → (perform (trying k o y) s).num ≡ 0 → Stays (did (trying k o y) ∷ h) c r y
    there (Ok None) z = tt
    there (Err _) z = absurd (omega (arith, z))
    there (Ok (Some p)) z = rw (e, and_l (eqb k c) (same_rule r o) e) (inl (among_new (dated_at (place_of p) (suc (length h))) (dated h c)))

-- within is false of i, and true of g: they differ
apart : (r : Rule) (i g : ℕ) → about r i ≡ false → about r g ≡ true → eqb i g ≡ false
apart r i g e f = by (eqb i g) refl
  where
    by : (b : Bool) → eqb i g ≡ b → eqb i g ≡ false
    by true q = differ (rw (eqb-true i g q) f) e
    by false q = q

-- an act that spares a rule
module _ (c : ℕ) (r : Rule) where
  put_among : (k : ℕ) (x : Plan) (n : ℕ) (d : Dated) (l : List Dated) → Among d l → Among d (put_in k x n c l)
  put_among k (Ok None) n d l a = a
  put_among k (Err _) n d l a = a
  put_among k (Ok (Some e)) n d l a = by (eqb k c)
    where
      by : (b : Bool) → Among d (cond b (insert_dated (dated_at (place_of e) n) l) l)
      by true = among_insert d (dated_at (place_of e) n) l a
      by false = a

  spared : (a : Act) (s : State) (h : History) → Spares c r a → (perform a s).num ≡ 0 → Kept h c r → Kept (did a ∷ h) c r
  unfolding dated
  spared (moving i x t) s h p z w = carry (did (moving i x t)) h c r refl (λ g m. (refl, refl)) (λ e n f a. inl a) w
  spared (turning i x) s h p z w = carry (did (turning i x)) h c r refl (λ g m. (apart r i g p m, refl)) (λ e n f a. inl a) w
  spared (trying k o x) s h p z w = by (tries c r (did (trying k o x))) refl
    where
      by : (b : Bool) → tries c r (did (trying k o x)) ≡ b → Kept (did (trying k o x) ∷ h) c r
      by true e = tried_now k o x s h c r e p z
      by false e = carry (did (trying k o x)) h c r e (λ g m. (refl, refl)) (λ y n f a. inl (put_among k x (suc (length h)) (dated_at (place_of y) n) (dated h c) a)) w
  spared (cancelling i k) s h p z w = carry (did (cancelling i k)) h c r refl (λ g m. (refl, refl)) (λ e n f a. inl (by (eqb k c) refl e n f a)) w
    where
      by : (b : Bool) → eqb k c ≡ b → (e : Pending) (n : ℕ) → Fits r (Ok (Some e)) → Among (dated_at (place_of e) n) (dated h c) → Among (dated_at (place_of e) n) (cond b (keep_dated i (dated h c)) (dated h c))
      by true q e n f a = among_keep (dated_at (place_of e) n) i (dated h c) (f.1 i ∙ (rw q at p)) a
      by false q e n f a = a
  spared (entering i k) s h p z w = carry (did (entering i k)) h c r refl (λ g m. (refl, by (eqb k c) refl g m)) (λ e n f a. inl a) w
    where
      by : (b : Bool) → eqb k c ≡ b → (g : ℕ) → about r g ≡ true → (eqb i g && b) ≡ false
      by true q g m = rw (apart r i g (rw q at p) m)
      by false q g m = and-false (eqb i g)
  spared (leaving i k) s h p z w = carry (did (leaving i k)) h c r refl (λ g m. (refl, refl)) (λ e n f a. inl a) w

  pub row_spares : (w : Acts) (s : State) (h : History) → Every (Spares c r) w → Kept h c r → Kept (row_done w s h) c r
  row_spares = done_keeps (Spares c r) (λ h. Kept h c r) (λ a s h p z k. spared a s h p z k)

-- ---- the head of cell k is taken out: what was found for r stays, unless it was that; an entry may be that
abbrev pub Not : Rule → Place → Type 0
Not r x = x.kind ≡ kind_of r → ((g : ℕ) → names (event_of x.kind x) g ≡ about r g) → Entry r

module _ (c k : ℕ) (r : Rule) (h : History) where
  pub took_keeps : (k ≡ c → (d : Dated) (l : List Dated) → dated h c ≡ d ∷ l → Not r d.event) → Kept h c r → Kept (took k ∷ h) c r
  unfolding dated
  took_keeps is w = carry (took k) h c r refl (λ g m. (refl, refl)) (λ e n f a. by (eqb k c) refl (dated h c) refl e n f a) w
    where
      out' : (d : Dated) (l : List Dated) → Not r d.event → (e : Pending) (n : ℕ) → Fits r (Ok (Some e)) → (dated_at (place_of e) n ≡ d) ⊎ Among (dated_at (place_of e) n) l
          → Among (dated_at (place_of e) n) l ⊎ (Entry r × ((true && eqb d.by n) ≡ true))
      out' d l no' e n f (inr a) = inl a
      out' d l no' e n f (inl q) = inr (
        no' (ap (λ (x : Dated). x.event.kind) (sym q) ∙ f.0) (λ g. ap (λ (x : Dated). named_by x g) (sym q) ∙ f.1 g),
        eq-eqb d.by n (ap (λ (x : Dated). x.by) (sym q)),
      )

      by : (b : Bool) → eqb k c ≡ b → (l : List Dated) → dated h c ≡ l → (e : Pending) (n : ℕ) → Fits r (Ok (Some e)) → Among (dated_at (place_of e) n) l
          → Among (dated_at (place_of e) n) (cond b (drop 1 l) l) ⊎ (Entry r × ((b && eqb (head_number l) n) ≡ true))
      by false q l m e n f a = inl a
      by true q [] m e n f a = absurd a
      by true q (d ∷ l) m e n f a = out' d l (is (eqb-true k c q) d l m) e n f a
