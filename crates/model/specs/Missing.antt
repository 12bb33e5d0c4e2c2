-- NO MISSING EVENT, the converse of T-13, over the same history: each rule that concerns a cell was tried there since the grains that it is about were last given a velocity
-- and entered the cell, and what it found is still pending there; and nothing else is pending. Assumes nothing: these are definitions.
use Rattle.std.specs.Prelude.{ℕ, ◌<◌, ◌≡◌, ◌⊎◌, List, [], ◌∷◌, Bool, true, false, ◌&&◌, ◌||◌, eqb, Some, None, Ok, Err}
use Rattle.halting.specs.Every.{All}
use Rattle.model.specs.declared.Pending.{Pending}
use Rattle.model.specs.Plans.{Plan}
use Rattle.model.specs.Grid.{cells}
use Rattle.model.specs.Events.{place_of}
use Rattle.model.specs.State.{State, listed, has}
use Rattle.model.specs.declared.Bound.{Bound}
use Rattle.model.specs.declared.Bound.TheVariants.{ToNeighbour, OutOfCell, Wall}
use Rattle.model.specs.Rows.{Rule, pair, bound, sync, about, moving, turning, trying, cancelling, entering, leaving}
use Rattle.model.specs.History.{Deed, did, took, History, latest, last_of, turned, Dated, dated_at, dated}

-- ---- when a grain last entered a cell
abbrev pub enters : ℕ → ℕ → Deed → Bool
enters g c (did (moving i x t)) = false
enters g c (did (turning i p)) = false
enters g c (did (trying k r x)) = false
enters g c (did (cancelling i k)) = false
enters g c (did (entering i k)) = eqb i g && eqb k c
enters g c (did (leaving i k)) = false
enters g c (took k) = false

abbrev pub arrived : History → ℕ → ℕ → ℕ
arrived h g c = latest (enters g c) h

-- ---- when a rule was last tried in a cell
-- the same rule: a pair in either order
abbrev pub same_bound : Bound → Bound → Bool
same_bound ToNeighbour ToNeighbour = true
same_bound ToNeighbour OutOfCell = false
same_bound ToNeighbour Wall = false
same_bound OutOfCell ToNeighbour = false
same_bound OutOfCell OutOfCell = true
same_bound OutOfCell Wall = false
same_bound Wall ToNeighbour = false
same_bound Wall OutOfCell = false
same_bound Wall Wall = true

abbrev pub same_rule : Rule → Rule → Bool
same_rule (pair p q) (pair i j) = (eqb p i && eqb q j) || (eqb p j && eqb q i)
same_rule (pair p q) (bound b i d) = false
same_rule (pair p q) sync = false
same_rule (bound b p d) (pair i j) = false
same_rule (bound b p d) (bound x i e) = same_bound b x && (eqb p i && eqb d e)
same_rule (bound b p d) sync = false
same_rule sync (pair i j) = false
same_rule sync (bound x i e) = false
same_rule sync sync = true

-- this deed tried rule r in cell c; what it found
abbrev pub tries : ℕ → Rule → Deed → Bool
tries c r (did (moving i x t)) = false
tries c r (did (turning i p)) = false
tries c r (did (trying k o x)) = eqb k c && same_rule r o
tries c r (did (cancelling i k)) = false
tries c r (did (entering i k)) = false
tries c r (did (leaving i k)) = false
tries c r (took k) = false

abbrev pub plan_of : Deed → Plan
plan_of (did (moving i x t)) = Ok None
plan_of (did (turning i p)) = Ok None
plan_of (did (trying k r x)) = x
plan_of (did (cancelling i k)) = Ok None
plan_of (did (entering i k)) = Ok None
plan_of (did (leaving i k)) = Ok None
plan_of (took k) = Ok None

-- the last try's number, and what it found
abbrev pub tried : History → ℕ → Rule → ℕ
tried h c r = latest (tries c r) h

abbrev pub found : History → ℕ → Rule → Plan
found h c r = last_of (Ok None) plan_of (tries c r) h

-- the event that act n put into cell c was taken out to be done
abbrev pub head_number : List Dated → ℕ
head_number [] = 0
head_number (d ∷ l) = d.by

abbrev pub draws : Deed → ℕ → ℕ → List Dated → Bool
draws (did a) c n l = false
draws (took k) c n l = eqb k c && eqb (head_number l) n

unfoldable pub executed : History → ℕ → ℕ → Bool
executed [] c n = false
executed (d ∷ h) c n = draws d c n (dated h c) || executed h c n

-- d is one of these
abbrev pub Among : Dated → List Dated → Type 0
Among d [] = ⊥
Among d (x ∷ xs) = (d ≡ x) ⊎ Among d xs

abbrev pub Entry : Rule → Type 0
Entry (pair p q) = ⊥
Entry (bound ToNeighbour p d) = Unit {0}
Entry (bound OutOfCell p d) = ⊥
Entry (bound Wall p d) = ⊥
Entry sync = ⊥

-- what the last try found is pending in that cell, as that act put it in; an entry may have been done instead
abbrev pub Stays : History → ℕ → Rule → Plan → Type 0
Stays h c r (Ok None) = Unit {0}
Stays h c r (Ok (Some e)) = Among (dated_at (place_of e) (tried h c r)) (dated h c) ⊎ (Entry r × (executed h c (tried h c r) ≡ true))
Stays h c r (Err _) = ⊥

-- the rule was last tried after the last change of velocity of every grain that it is about, and after each entered the cell
pub record Watched (h : History) (c : ℕ) (r : Rule) : Type 0 where
  pub since : (g : ℕ) → about r g ≡ true → (turned h g < tried h c r) × (arrived h g c < tried h c r)
  pub stays : Stays h c r (found h c r)

-- the rules that concern a cell: a collision of any two different grains that it lists, the bounds in both directions of any that it lists
abbrev pub Concerns : State → ℕ → Rule → Type 0
Concerns s c (pair p q) = (has p (listed s c) ≡ true) × (has q (listed s c) ≡ true) × (eqb p q ≡ false)
Concerns s c (bound b p d) = (has p (listed s c) ≡ true) × (d < 2)
Concerns s c sync = ⊥

abbrev pub NoneMissing : History → State → Type 0
NoneMissing h s = (c : ℕ) → c < cells s.box → (r : Rule) → Concerns s c r → Watched h c r

-- ---- and NOTHING ELSE is pending
-- the grain whose scheduling asks for a rule: after a collision each of the two asks for the other, and each may find it
abbrev pub asker : Rule → ℕ
asker (pair p q) = p
asker (bound b p d) = p
asker sync = 0

-- this deed tried rule r in cell c for its asker; the last such try's number
abbrev pub asks : ℕ → Rule → Deed → Bool
asks c r (did (moving i x t)) = false
asks c r (did (turning i p)) = false
asks c r (did (trying k o x)) = eqb k c && (same_rule r o && eqb (asker r) (asker o))
asks c r (did (cancelling i k)) = false
asks c r (did (entering i k)) = false
asks c r (did (leaving i k)) = false
asks c r (took k) = false

abbrev pub asked : History → ℕ → Rule → ℕ
asked h c r = latest (asks c r) h

-- the rules that a cell owes: those that concern it, and in cell 0 the synchronisation
abbrev pub Owes : State → ℕ → Rule → Type 0
Owes s c (pair p q) = Concerns s c (pair p q)
Owes s c (bound b p d) = Concerns s c (bound b p d)
Owes s c sync = c ≡ 0

-- an event is what the last try of a rule that the cell owes found, a pair's by the grain that asked; since then none of the rule's grains entered the cell
pub record Owed (h : History) (s : State) (c : ℕ) (d : Dated) : Type 0 where
  pub rule : Rule
  pub event : Pending
  pub owes : Owes s c rule
  pub finds : last_of (Ok None) plan_of (asks c rule) h ≡ Ok (Some event)
  pub is : d ≡ dated_at (place_of event) (asked h c rule)
  pub since : (g : ℕ) → about rule g ≡ true → arrived h g c < d.by

abbrev pub NothingElse : History → State → Type 0
NothingElse h s = (c : ℕ) → c < cells s.box → All (Owed h s c) (dated h c)
