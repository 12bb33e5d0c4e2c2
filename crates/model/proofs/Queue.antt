-- One cell's queue: what an insertion, a cancelling and the removal of the head keep. Assumes nothing.
use Prim.Native.Nat.{ℕ, suc, ◌+◌, ◌<◌}
use mathlib.Core.Path.{◌≡◌, refl, sym, ap, subst, ◌∙◌}
use mathlib.Core.List.{List, [], ◌∷◌, ◌++◌}
use mathlib.Core.Bool.{Bool, true, false, not, ◌&&◌}
use native.Mathlib.Omega.{arith}
use lib.Dec.{T}
use lib.ListN.{length, drop, replicate, length-replicate, length-append}
use lib.Ieee.{Float, le, lt, is_nan}
use lib.Ieee.Scale.{finite}
use lib.Ieee.Bits.{is_false}
use Rattle.model.specs.declared.Place.{Place}
use Rattle.halting.specs.Every.{All}
use Rattle.halting.proofs.Bools.{and_l, and_r}
use Rattle.halting.proofs.All.{all_to, all_after, all_mid}
use Rattle.order.specs.Numbers.{f64_max}
use Rattle.order.proofs.Order.{le_trans, lt_left, lt→le}
use Rattle.order.proofs.Compare.{lt_of_not_le}
use Rattle.model.specs.Events.{insert_by, keep_by, gone_by, names, event_of, fine_place, zero_p}
use Rattle.model.specs.State.{Row, row}
use Rattle.model.specs.Standing.{Rising}
use Rattle.model.proofs.Sound.{Held, Queue}
pub use Rattle.order.proofs.Compare.{yes as T_of}
use Rattle.model.proofs.Lists.{drop_one}
use Rattle.model.proofs.Inserts.{Later, inserted_at}

-- ---- a fine event's time
pub fine_top : (e : Place) → fine_place e ≡ true → T (lt e.time f64_max)
unfolding fine_place
fine_top e h = T_of (lt e.time f64_max) (and_r (finite e.time) (lt e.time f64_max) (and_l (finite e.time && lt e.time f64_max) _ h))

pub fine_finite : (e : Place) → fine_place e ≡ true → T (finite e.time)
unfolding fine_place
fine_finite e h = T_of (finite e.time) (and_l (finite e.time) (lt e.time f64_max) (and_l (finite e.time && lt e.time f64_max) _ h))

pub fine_real : (e : Place) → fine_place e ≡ true → T (not (is_nan e.time))
fine_real e h = lt_left e.time f64_max (fine_top e h)

-- ---- time order
pub rising_from : (t u : Float) (l : List Place) → T (le t u) → Rising u l → Rising t l
rising_from t u [] h r = tt
rising_from t u (x ∷ xs) h r = (le_trans t u x.time h r.0, r.1)

late : (x e : Place) → fine_place x ≡ true → fine_place e ≡ true → le x.time e.time ≡ false → T (le e.time x.time)
late x e f g h = lt→le e.time x.time (T_of (lt e.time x.time) (lt_of_not_le x.time e.time (is_false _ (fine_real x f)) (is_false _ (fine_real e g)) h))

-- e between those that are not later and those that are
rising_mid : (t : Float) (e : Place) (bs xs : List Place) → fine_place e ≡ true → T (le t e.time) → All (λ x. fine_place x ≡ true) xs → All (λ x. le x.time e.time ≡ true) bs → Later e xs → Rising t (bs ++ xs) → Rising t (bs ++ e ∷ xs)
rising_mid t e [] [] f h a n l r = (h, tt)
rising_mid t e [] (x ∷ xs) f h a n l r = (h, (late x e a.0 f l, r.1))
rising_mid t e (b ∷ bs) xs f h a n l r = (r.0, rising_mid b.time e bs xs f (T_of _ n.0) a n.1 l r.1)

pub rising_insert : (n c : ℕ) (m : List ℕ) (t : Float) (e : Place) (l : List Place) → fine_place e ≡ true → T (le t e.time) → All (Held n c m) l → Rising t l → Rising t (insert_by e l)
rising_insert n c m t e l f h a r =
    let i = inserted_at e l in
    subst (Rising t) (sym i.is) (rising_mid t e i.before i.after f h
    (all_to (Held n c m) (λ x. fine_place x ≡ true) i.after (λ x q. q.fine) (all_after (Held n c m) i.before i.after (subst (All (Held n c m)) i.was a))) i.not_later i.later (subst (Rising t) i.was r))

pub rising_keep : (g : ℕ) (t : Float) (l : List Place) → Rising t l → Rising t (keep_by g l)
unfolding keep_by
rising_keep g t [] r = tt
rising_keep g t (x ∷ xs) r = by (names (event_of x.kind x) g) refl (rising_keep g x.time xs r.1)
  where
    by : (b : Bool) → names (event_of x.kind x) g ≡ b → Rising x.time (keep_by g xs) → Rising t (keep_by g (x ∷ xs))
    by true q ih = rw q (rising_from t x.time (keep_by g xs) r.0 ih)
    by false q ih = rw q (r.0, ih)

-- ---- every event
module _ (P : Place → Type 0) where
  pub all_insert : (e : Place) (l : List Place) → P e → All P l → All P (insert_by e l)
  all_insert e l p a = let i = inserted_at e l in subst (All P) (sym i.is) (all_mid P e i.before i.after p (subst (All P) i.was a))

  pub all_keep : (g : ℕ) (l : List Place) → All P l → All P (keep_by g l)
  unfolding keep_by
  all_keep g [] a = tt
  all_keep g (x ∷ xs) a = by (names (event_of x.kind x) g) refl (all_keep g xs a.1)
    where
      by : (b : Bool) → names (event_of x.kind x) g ≡ b → All P (keep_by g xs) → All P (keep_by g (x ∷ xs))
      by true q ih = rw q ih
      by false q ih = rw q (a.0, ih)

-- what is kept does not name the grain
pub kept_names : (g : ℕ) (l : List Place) → All (λ x. names (event_of x.kind x) g ≡ false) (keep_by g l)
unfolding keep_by
kept_names g [] = tt
kept_names g (x ∷ xs) = by (names (event_of x.kind x) g) refl (kept_names g xs)
  where
    by : (b : Bool) → names (event_of x.kind x) g ≡ b → All (λ y. names (event_of y.kind y) g ≡ false) (keep_by g xs) → All (λ y. names (event_of y.kind y) g ≡ false) (keep_by g (x ∷ xs))
    by true q ih = rw q ih
    by false q ih = rw q (q, ih)

-- ---- how many
length_mid : (e : Place) (bs xs : List Place) → length (bs ++ e ∷ xs) ≡ suc (length (bs ++ xs))
length_mid e [] xs = refl
length_mid e (b ∷ bs) xs = ap suc (length_mid e bs xs)

pub length_insert : (e : Place) (l : List Place) → length (insert_by e l) ≡ suc (length l)
length_insert e l = let i = inserted_at e l in ap length i.is ∙ length_mid e i.before i.after ∙ ap (λ (m : List Place). suc (length m)) (sym i.was)

pub length_keep : (g : ℕ) (l : List Place) → length (keep_by g l) + gone_by g l ≡ length l
unfolding keep_by gone_by
length_keep g [] = refl
length_keep g (x ∷ xs) = by (names (event_of x.kind x) g) refl (length_keep g xs)
  where
    by : (b : Bool) → names (event_of x.kind x) g ≡ b → length (keep_by g xs) + gone_by g xs ≡ length xs → length (keep_by g (x ∷ xs)) + gone_by g (x ∷ xs) ≡ suc (length xs)
    by true q ih = rw q (omega (arith, ih))
    by false q ih = rw q (omega (arith, ih))

-- ---- the three changes of a queue
module _ (t : Float) (room n c : ℕ) (m : List ℕ) (r : Row Place) (q : Queue t room n c m r) where
  pub queue_insert : (e : Place) → Held n c m e → T (le t e.time) → length r.live < room → Queue t room n c m (row (insert_by e r.live) (drop 1 r.spare))
  queue_insert e h l f = record {
    full = rw (length_insert e r.live) (drop_one r.spare (length r.live) room q.full f);
    rising = rising_insert n c m t e r.live h.fine l q.held q.rising;
    held = all_insert (Held n c m) e r.live h q.held;
  }

  pub queue_cancel : (g : ℕ) → Queue t room n c m (row (keep_by g r.live) (replicate (gone_by g r.live) zero_p ++ r.spare))
  queue_cancel g = record {
    full = rw (length-append (replicate (gone_by g r.live) zero_p) r.spare, length-replicate (gone_by g r.live) zero_p) (omega (arith, q.full, length_keep g r.live));
    rising = rising_keep g t r.live q.rising;
    held = all_keep (Held n c m) g r.live q.held;
  }
