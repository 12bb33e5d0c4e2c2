-- Tables that hold a state are read as that state. Assumes nothing.
use mathlib.Core.Path.{◌≡◌, refl, sym, ap, ◌∙◌}
use Prim.Native.Nat.{ℕ, zero, suc, ◌+◌, ◌-◌}
use native.Mathlib.Nat.{suc-ne-zero}
use native.Mathlib.Numerals.{add-one}
use native.Mathlib.Omega.{arith}
use mathlib.Core.List.{List, [], ◌∷◌, ◌++◌, append_assoc}
use lib.ListN.{length, take, drop, take-append-drop}
use lib.Seq.{take_at, drop_at, drop-drop}
use lib.Ieee.{Float}
use Rattle.layout.specs.Widths.{lists_head_wide, grains_head_wide, grain_wide, home_room, member_room, home_from, place_nums_wide, place_reals_wide, queue_wide, events_wide, heap_wide, order_wide}
use Rattle.halting.specs.Every.{All}
use Rattle.halting.proofs.All.{all_to, all_always}
use Rattle.chunks.specs.Flat.{flat}
use Rattle.scheduler.specs.declared.Scheduler.{Scheduler}
use Rattle.model.specs.declared.Domain.{Domain}
use Rattle.model.specs.declared.Particle.{Particle}
use Rattle.model.specs.declared.Place.{Place}
use Rattle.model.specs.State.{Row, row, State}
use Rattle.tables.specs.declared.Sizes.{Sizes}
use Rattle.tables.specs.Layout.{places, grain_reals, row_nums, place_nums, place_reals, queue_nums, queue_reals}
use Rattle.tables.specs.Holds.{Rows, Full}
use Rattle.tables.proofs.ListLaws.{rows_long}
use Rattle.tables.proofs.Runs.{row_nums_long, row_reals_long}
use Rattle.tables.specs.Decode.{Tables, decoded, decoded_by, cut, cut_both, row_of, grain_at, grains_of, row_at, rows_of, place_at, places_of, queue_at, queues_of, scheduler_of}
use Rattle.tables.specs.Lengths.{lists_need, grains_need, queue_need, events_need}
use Rattle.checks.proofs.Hold.{Hold}

-- ---- records that are written are read back, whatever follows them
module _ {A B : Type 0} (read : List B → A) (enc : A → List B) (w : ℕ) (again : (x : A) (y : List B) → length (enc x) ≡ w → read (enc x ++ y) ≡ x) where
  cut_back : (n : ℕ) (xs : List A) (y : List B) → length xs ≡ n → All (λ (x : A). length (enc x) ≡ w) xs → cut read w n (flat enc xs ++ y) ≡ xs
  unfolding cut
  cut_back zero [] y e v = refl
  cut_back zero (x ∷ xs) y e v = absurd (suc-ne-zero (length xs) e)
  cut_back (suc n) [] y e v = absurd (suc-ne-zero n (sym e))
  cut_back (suc n) (x ∷ xs) y e v =
      ap (λ (l : List B). read l ∷ cut read w n (drop w l)) (append_assoc (enc x) (flat enc xs) y)
      ∙ ap (λ (a : A). a ∷ cut read w n (drop w (enc x ++ (flat enc xs ++ y)))) (again x (flat enc xs ++ y) v.0)
      ∙ ap (λ (l : List B). x ∷ cut read w n l) (drop_at (enc x) (flat enc xs ++ y) w v.0) ∙ ap (λ (r : List A). x ∷ r) (cut_back n xs y (omega arith) v.1)

module _ {A B C : Type 0} (read : List B → List C → A) (enc : A → List B) (enc' : A → List C) (w v : ℕ) (P : A → Type 0)
    (long : (x : A) → P x → length (enc x) ≡ w) (long' : (x : A) → P x → length (enc' x) ≡ v) (again : (x : A) (y : List B) (z : List C) → P x → read (enc x ++ y) (enc' x ++ z) ≡ x) where
  both_back : (n : ℕ) (xs : List A) (y : List B) (z : List C) → length xs ≡ n → All P xs → cut_both read w v n (flat enc xs ++ y) (flat enc' xs ++ z) ≡ xs
  unfolding cut_both
  both_back zero [] y z e f = refl
  both_back zero (x ∷ xs) y z e f = absurd (suc-ne-zero (length xs) e)
  both_back (suc n) [] y z e f = absurd (suc-ne-zero n (sym e))
  both_back (suc n) (x ∷ xs) y z e f =
      ap (λ (l : List B). read l ((enc' x ++ flat enc' xs) ++ z) ∷ cut_both read w v n (drop w l) (drop v ((enc' x ++ flat enc' xs) ++ z))) (append_assoc (enc x) (flat enc xs) y)
      ∙ ap (λ (l : List C). read (enc x ++ (flat enc xs ++ y)) l ∷ cut_both read w v n (drop w (enc x ++ (flat enc xs ++ y))) (drop v l)) (append_assoc (enc' x) (flat enc' xs) z)
      ∙ ap (λ (a : A). a ∷ cut_both read w v n (drop w (enc x ++ (flat enc xs ++ y))) (drop v (enc' x ++ (flat enc' xs ++ z)))) (again x (flat enc xs ++ y) (flat enc' xs ++ z) f.0)
      ∙ ap (λ (l : List B). x ∷ cut_both read w v n l (drop v (enc' x ++ (flat enc' xs ++ z)))) (drop_at (enc x) (flat enc xs ++ y) w (long x f.0))
      ∙ ap (λ (l : List C). x ∷ cut_both read w v n (flat enc xs ++ y) l) (drop_at (enc' x) (flat enc' xs ++ z) v (long' x f.0))
      ∙ ap (λ (r : List A). x ∷ r) (both_back n xs y z (omega arith) f.1)

-- ---- each record
row_back : {A : Type 0} (r : Row A) → row_of (length r.live) (places r) ≡ r
row_back {A} r =
    ap (λ (l : List A). row l (drop (length r.live) (places r))) (take_at r.live r.spare (length r.live) refl)
    ∙ ap (λ (l : List A). row r.live l) (drop_at r.live r.spare (length r.live) refl)

nums_back : (v : ℕ) (r : Row ℕ) (y : List ℕ) → length (row_nums r) ≡ v + 1 → row_at v (row_nums r ++ y) ≡ r
nums_back v r y e = ap (row_of (length r.live)) (take_at (places r) y v (let a = add-one v in omega arith)) ∙ row_back r

places_back : (n : ℕ) (ps : List Place) (y : List ℕ) (z : List Float) → length ps ≡ n → places_of n (flat place_nums ps ++ y) (flat place_reals ps ++ z) ≡ ps
places_back n ps y z e = both_back place_at place_nums place_reals place_nums_wide place_reals_wide (λ p. Unit {0}) (λ x u. refl) (λ x u. refl) (λ x y z u. refl) n ps y z e (all_always (λ p. Unit {0}) (λ p. tt) ps)

queue_back : (room : ℕ) (r : Row Place) → length (places r) ≡ room → (y : List ℕ) (z : List Float) → queue_at room (queue_nums r ++ y) (queue_reals r ++ z) ≡ r
queue_back room r f y z = ap (row_of (length r.live)) (places_back room (places r) y z f) ∙ row_back r

-- ---- the parts
pub row_wide_lem : (k : ℕ) (rs : List (Row ℕ)) → All (λ (r : Row ℕ). length (places r) ≡ k) rs → All (λ (r : Row ℕ). length (row_nums r) ≡ k + 1) rs
row_wide_lem k rs v = all_to (λ (r : Row ℕ). length (places r) ≡ k) (λ (r : Row ℕ). length (row_nums r) ≡ k + 1) rs (λ r e. ap suc e ∙ sym (add-one k)) v

rows_back : (k : ℕ) {m n : ℕ} (rs : List (Row ℕ)) (y : List ℕ) → Rows m k n rs → rows_of k m (flat row_nums rs ++ y) ≡ rs
rows_back k {m = m} rs y R = cut_back (row_at k) row_nums (k + 1) (nums_back k) m rs y R.many (row_wide_lem k rs R.wide)

grains_back : (n : ℕ) (gs : List Particle) (y : List Float) → length gs ≡ n → grains_of n (flat grain_reals gs ++ y) ≡ gs
grains_back n gs y e = cut_back grain_at grain_reals grain_wide (λ p y e. refl) n gs y e (all_always (λ (p : Particle). length (grain_reals p) ≡ grain_wide) (λ p. refl) gs)

queues_back : (room n : ℕ) (qs : List (Row Place)) (y : List ℕ) (z : List Float) → length qs ≡ n → All (Full room) qs → queues_of room n (flat queue_nums qs ++ y) (flat queue_reals qs ++ z) ≡ qs
queues_back room n qs y z e f =
    both_back (queue_at room) queue_nums queue_reals (queue_wide room) (events_wide room) (Full room) (row_nums_long room) (row_reals_long room) (λ r y z g. queue_back room r g y z) n qs y z e f

scheduler_back : (n : ℕ) (o : List ℕ) (h : Scheduler) → take order_wide o ≡ h.heap ++ h.lookups → length h.heap ≡ 256 → length h.lookups ≡ 256 → h.cells ≡ n → scheduler_of n o ≡ h
scheduler_back n o h e a b c = same first second (sym c)
  where
    cut_up : o ≡ h.heap ++ (h.lookups ++ drop order_wide o)
    cut_up = sym (take-append-drop order_wide o) ∙ ap (λ (l : List ℕ). l ++ drop order_wide o) e ∙ append_assoc h.heap h.lookups (drop order_wide o)

    first : take heap_wide o ≡ h.heap
    first = ap (take heap_wide) cut_up ∙ take_at h.heap (h.lookups ++ drop order_wide o) 256 a

    second : take heap_wide (drop heap_wide o) ≡ h.lookups
    second = ap (λ (l : List ℕ). take heap_wide (drop heap_wide l)) cut_up ∙ ap (take heap_wide) (drop_at h.heap (h.lookups ++ drop order_wide o) 256 a) ∙ take_at h.lookups (drop order_wide o) 256 b

    same : {x y : List ℕ} {m : ℕ} → x ≡ h.heap → y ≡ h.lookups → m ≡ h.cells → ◌≡◌ {A = Scheduler} (record { heap = x; lookups = y; cells = m }) h
    same p q r = rw (p, q, r)

-- ---- all
abbrev state_of : Domain → Float → ℕ → ℕ → List Particle → List (Row ℕ) → List (Row ℕ) → List (Row Place) → Scheduler → State
state_of b c m r g h l q s = record { box = b; clock = c; mark = m; room = r; grains = g; homes = h; members = l; queues = q; sched = s }

same_state : {b b' : Domain} {c c' : Float} {m m' r r' : ℕ} {g g' : List Particle} {h h' l l' : List (Row ℕ)} {q q' : List (Row Place)} {s s' : Scheduler}
    → b ≡ b' → c ≡ c' → m ≡ m' → r ≡ r' → g ≡ g' → h ≡ h' → l ≡ l' → q ≡ q' → s ≡ s' → state_of b c m r g h l q s ≡ state_of b' c' m' r' g' h' l' q' s'
same_state b c m r g h l q s = rw (b, c, m, r, g, h, l, q, s)

module _ (z : Sizes) (t : Tables) (s : State) (H : Hold z t s) where
  abbrev pub beyond : List ℕ
  beyond = drop (lists_need z - lists_head_wide) (drop lists_head_wide t.lists)

  pub lists_cut : drop lists_head_wide t.lists ≡ flat row_nums s.homes ++ (flat row_nums s.members ++ beyond)
  lists_cut =
      sym (take-append-drop (lists_need z - lists_head_wide) (drop lists_head_wide t.lists)) ∙ ap (λ (l : List ℕ). l ++ beyond) H.body.listed.is
      ∙ append_assoc (flat row_nums s.homes) (flat row_nums s.members) beyond

  homes_back : rows_of home_room z.grains (drop lists_head_wide t.lists) ≡ s.homes
  homes_back = ap (rows_of home_room z.grains) lists_cut ∙ rows_back home_room s.homes (flat row_nums s.members ++ beyond) H.body.listed.homes

  pub members_cut : drop (lists_head_wide + home_from z.grains) t.lists ≡ flat row_nums s.members ++ beyond
  members_cut =
      sym (drop-drop (home_from z.grains) lists_head_wide t.lists) ∙ ap (drop (home_from z.grains)) lists_cut ∙ drop_at (flat row_nums s.homes) (flat row_nums s.members ++ beyond) (home_from z.grains) (rows_long H.body.listed.homes)

  members_back : rows_of member_room z.cells (drop (lists_head_wide + home_from z.grains) t.lists) ≡ s.members
  members_back = ap (rows_of member_room z.cells) members_cut ∙ rows_back member_room s.members beyond H.body.listed.members

  all_grains_back : grains_of z.grains (drop grains_head_wide t.grains) ≡ s.grains
  all_grains_back =
      ap (grains_of z.grains) (sym (take-append-drop (grains_need z - grains_head_wide) (drop grains_head_wide t.grains)) ∙ ap (λ (l : List Float). l ++ drop (grains_need z - grains_head_wide) (drop grains_head_wide t.grains)) H.body.grained.is)
      ∙ grains_back z.grains s.grains (drop (grains_need z - grains_head_wide) (drop grains_head_wide t.grains)) H.body.grained.many

  pub queue_cut : t.queue ≡ flat queue_nums s.queues ++ drop (queue_need z) t.queue
  queue_cut = sym (take-append-drop (queue_need z) t.queue) ∙ ap (λ (l : List ℕ). l ++ drop (queue_need z) t.queue) H.body.queued.tables.queue_is

  all_queues_back : queues_of z.room z.cells t.queue t.events ≡ s.queues
  all_queues_back =
      let T = H.body.queued.tables in
      ap (λ (l : List ℕ). queues_of z.room z.cells l t.events) queue_cut
      ∙ ap (queues_of z.room z.cells (flat queue_nums s.queues ++ drop (queue_need z) t.queue))
      (sym (take-append-drop (events_need z) t.events) ∙ ap (λ (l : List Float). l ++ drop (events_need z) t.events) T.events_is)
      ∙ queues_back z.room z.cells s.queues (drop (queue_need z) t.queue) (drop (events_need z) t.events) T.many T.full

  -- TABLES THAT HOLD A STATE ARE READ AS THAT STATE
  pub read_back : decoded t ≡ s
  read_back =
      ap (λ (y : Sizes). decoded_by y t) (sym H.sizes)
      ∙ same_state H.box_is H.clock_is H.mark_is (sym H.body.queued.room_is) all_grains_back homes_back members_back all_queues_back
      (scheduler_back z.cells t.order s.sched H.body.queued.heap.is H.body.queued.heap.heap_long H.body.queued.heap.lookups_long H.body.queued.heap.cells_is)
