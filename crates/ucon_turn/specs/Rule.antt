-- The rule that the table of a turn keeps, and what each step tells the seat that makes it.
use Rattle.std.specs.Prelude.{◌≡◌, ◌≢◌, ◌⊎◌, ℕ, ◌+◌, ◌%◌, ◌<◌, ◌≤◌, max, List, [], ◌∷◌, length, Option, Some, ⊤}
use mathlib.Core.Option.{none, some}
use lib.ListN.{get_elem?}
use Rattle.atomic_table.specs.Table.{State, Me, Step}
use Rattle.atomic_table.specs.Seated.{TableId}
use Rattle.atomic_table.specs.declared.shared.Seat.{Seat}
use Rattle.atomic_table.specs.declared.shared.Shared.{Shared}
use Rattle.std.specs.declared.snapshot.Snapshot.{Snapshot}
use Rattle.ucon_turn.specs.declared.table.SeatView.{SeatView}
use Rattle.ucon_turn.specs.declared.table.Stage.{Stage}
use Rattle.ucon_turn.specs.declared.table.Stage.TheVariants.{Spent, Idle, Joined, Waiting, Up, Holding, Booked}
use Rattle.ucon_base.specs.Elements.{Each}
use Rattle.ucon_turn.specs.Lists.{Has, Begins, Continues, ByOthers, longer}
use Rattle.ucon_turn.specs.Turns.{Knowledge}

-- tickets and counts stand in the words modulo this
abbrev pub size : ℕ
size = 18446744073709551616

-- above each of these numbers, and above 0
abbrev pub top : List ℕ → ℕ
top [] = 1
top (k ∷ ks) = max (k + 1) (top ks)

-- how far a seat is in its round
abbrev pub rank : Stage → ℕ
rank Spent = 0
rank Idle = 1
rank Joined = 1
rank Waiting = 2
rank Up = 3
rank Holding = 4
rank Booked = 4

-- how many tickets a seat has
abbrev pub weight : Stage → ℕ
weight Spent = 0
weight Idle = 0
weight Joined = 0
weight Waiting = 1
weight Up = 1
weight Holding = 1
weight Booked = 1

-- what a seat that took in another knows of the three lists: its own, the other's and the longer of them
abbrev pub MeetsBoth : {N : Type 0} → (N → ℕ) → ℕ → List ℕ → List N → List N → List N → Type 0
MeetsBoth caller number [] ours theirs seen = ⊤
MeetsBoth caller number (k ∷ taken) ours theirs seen = Continues (ByOthers caller number taken) ours seen × Continues (ByOthers caller k []) theirs seen

module _ {E N : Type 0} where
  abbrev pub IsLive : SeatView E N → Type 0
  IsLive v = 1 ≤ rank v.stage

  abbrev pub HasTicket : SeatView E N → Type 0
  HasTicket v = 2 ≤ rank v.stage

  -- its ticket is up
  abbrev pub IsUp : SeatView E N → Type 0
  IsUp v = 3 ≤ rank v.stage

  abbrev pub HasValue : SeatView E N → Type 0
  HasValue v = 4 ≤ rank v.stage

  -- how many tickets are out
  abbrev pub tickets : List (SeatView E N) → ℕ
  tickets [] = 0
  tickets (v ∷ vs) = weight v.stage + tickets vs

  -- the first seat of a turn, which was opened with this value
  abbrev pub first_view : E → List N → SeatView E N
  first_view x list = record { stage = Idle; ticket = 0; number = 0; opened = x ∷ []; seen = list; given = []; taken = []; note = 0; ours = []; theirs = [] }

  -- a seat that was joined into another
  abbrev pub spent : SeatView E N
  spent = record { stage = Spent; ticket = 0; number = 0; opened = []; seen = []; given = []; taken = []; note = 0; ours = []; theirs = [] }

  -- a seat that gave the number that it noted
  abbrev pub parted : SeatView E N → SeatView E N
  parted v = record v { given = v.note ∷ v.given }

  -- the seat with the number that this one noted
  abbrev pub child : SeatView E N → SeatView E N
  child v = record { stage = Idle; ticket = 0; number = v.note; opened = v.opened; seen = v.seen; given = []; taken = []; note = 0; ours = []; theirs = [] }

  -- a seat that took in another
  abbrev pub joined : SeatView E N → SeatView E N → SeatView E N
  joined v w = record v { stage = Joined; seen = longer v.seen w.seen; taken = w.number ∷ v.taken; ours = v.seen; theirs = w.seen }

  -- What the rule says of what a live seat, the j-th, knows. Its list begins with the opening list and begins the turn's list, which has no entry
  -- of its own behind. The seat with number 0 is the first one, and knows all numbers that were given.
  pub record Knows (caller : N → ℕ) (entries : E → List N) (about : E) (log : List N) (all_given : List ℕ) (j : ℕ) (opened : List E) (number : ℕ) (seen : List N) (given taken : List ℕ) : Type 0 where
    pub opened_is : opened ≡ about ∷ []
    pub begins : Begins (entries about) seen
    pub own : Continues (ByOthers caller number taken) seen log
    pub listed : Has (0 ∷ all_given) number
    pub back : Each (Has (0 ∷ all_given)) taken
    pub zeroth : number ≡ 0 → (j ≡ 0) × (given ≡ all_given)

  -- what it says of where the seat is in its round
  pub record Stands (served drawn : ℕ) (log : List N) (v : SeatView E N) : Type 0 where
    pub queued : HasTicket v → (served ≤ v.ticket) × (v.ticket < drawn)
    pub up : IsUp v → v.ticket ≡ served
    pub sees_all : HasValue v → v.seen ≡ log

  pub record Fits (caller : N → ℕ) (entries : E → List N) (about : E) (log : List N) (all_given : List ℕ) (served drawn j : ℕ) (v : SeatView E N) : Type 0 where
    pub knows : Knows caller entries about log all_given j v.opened v.number v.seen v.given v.taken
    pub stands : Stands served drawn log v
    pub meets : v.stage ≡ Joined → MeetsBoth caller v.number v.taken v.ours v.theirs v.seen

  -- two live seats have two numbers and two tickets, and neither took back the other's number
  pub record Apart (v w : SeatView E N) : Type 0 where
    pub numbers : v.number ≢ w.number
    pub taken : Each (λ k. w.number ≢ k) v.taken
    pub turns : HasTicket v → HasTicket w → v.ticket ≢ w.ticket

  -- the value is in the slot, and no seat has it
  abbrev pub AtHome : (E → E → Type 0) → (E → List N) → E → List N → State (Option E) (SeatView E N) → Type 0
  AtHome led_to entries about log s =
      (x : E) × (s.homes ≡ some (Some x) ∷ []) × (led_to about x) × (entries x ≡ log)
      × ((j : ℕ) (v : SeatView E N) → get_elem? s.views j ≡ some v → rank v.stage < 4)

  -- a seat has the slot
  abbrev pub OutWith : State (Option E) (SeatView E N) → Type 0
  OutWith s = (j : ℕ) × (v : SeatView E N) × (get_elem? s.views j ≡ some v) × HasValue v × (s.homes ≡ none ∷ [])

  -- where the value is
  abbrev pub Spot : (E → E → Type 0) → (E → List N) → E → List N → State (Option E) (SeatView E N) → Type 0
  Spot led_to entries about log s = AtHome led_to entries about log s ⊎ OutWith s

  -- The rule of a turn that was opened with `about`. There is one list. The tickets out are those from `served` to just before `drawn`, one for
  -- each seat that has one. There are no more seats than numbers that fit 32 bits, so no two tickets out are equal in the words.
  pub record Ruled (caller : N → ℕ) (led_to : E → E → Type 0) (entries : E → List N) (about : E) (s : State (Option E) (SeatView E N)) : Type 0 where
    pub drawn : ℕ
    pub served : ℕ
    pub booked : ℕ
    pub log : List N
    pub given : List ℕ
    pub words_are : s.words ≡ (drawn % size) ∷ (served % size) ∷ (booked % size) ∷ []
    pub counted : drawn ≡ served + tickets s.views
    pub long : length (entries about) + booked ≡ length log
    pub few : length s.views ≤ top given
    pub small : top given ≤ 4294967296
    pub known : Continues (λ e. Has (0 ∷ given) (caller e)) (entries about) log
    pub each : (j : ℕ) (v : SeatView E N) → get_elem? s.views j ≡ some v → IsLive v → Fits caller entries about log given served drawn j v
    pub apart : (i j : ℕ) (v w : SeatView E N) → get_elem? s.views i ≡ some v → get_elem? s.views j ≡ some w → i ≢ j → IsLive v → IsLive w → Apart v w
    pub spot : Spot led_to entries about log s

-- what no run changes of the value that was handed in, and what lies between it and the value now
abbrev pub LedTo : {E B : Type 0} → (E → B) → (E → E → Type 0) → E → E → Type 0
LedTo base stays about x = (base x ≡ base about) × stays about x

-- a seat's view, and the slots that it holds
abbrev Sat : Type 0 → Type 0 → Type 0
Sat E N = Me (Option E) (SeatView E N)

-- what each step tells: of the step, the seat before, the number found and the seat after
module _ {E N : Type 0} where
  abbrev pub drew : Step (Option E) → Sat E N → ℕ → Sat E N → Type 0
  drew st m r m' = (r ≡ m'.0.ticket % size) × (m' ≡ (record m.0 { stage = Waiting; ticket = m'.0.ticket }, m.1))

  abbrev pub waited : Step (Option E) → Sat E N → ℕ → Sat E N → Type 0
  waited st m r m' = (r ≡ m.0.ticket % size → m' ≡ (record m.0 { stage = Up }, m.1)) × (r ≢ m.0.ticket % size → m' ≡ m)

  -- the slot comes with a value, to which the one that was handed in led, and which stands for the list that is then seen
  abbrev pub read : (N → ℕ) → (E → E → Type 0) → (E → List N) → Step (Option E) → Sat E N → ℕ → Sat E N → Type 0
  read caller led_to entries st m r m' = (x : E) × (about : E) × (m' ≡ (record m.0 { stage = Holding; seen = entries x }, (0, Some x) ∷ []))
      × (m.0.opened ≡ about ∷ []) × (led_to about x) × Begins (entries about) (entries x) × Continues (ByOthers caller m.0.number m.0.taken) m.0.seen (entries x)

  -- the list that the value in hand stands for is seen
  abbrev pub booked : (E → List N) → Step (Option E) → Sat E N → ℕ → Sat E N → Type 0
  booked entries st m r m' = (x : E) → m.1 ≡ (0, Some x) ∷ [] → m' ≡ (record m.0 { stage = Booked; seen = entries x }, m.1)

  abbrev pub passed : Step (Option E) → Sat E N → ℕ → Sat E N → Type 0
  passed st m r m' = m' ≡ (record m.0 { stage = Idle }, [])

  abbrev pub noted : (E → List N) → Step (Option E) → Sat E N → ℕ → Sat E N → Type 0
  noted entries st m r m' = (about : E) × (m' ≡ (record m.0 { note = st.first }, m.1)) × (m.0.opened ≡ about ∷ []) × Begins (entries about) m.0.seen

  abbrev pub looked : (N → ℕ) → (E → List N) → Step (Option E) → Sat E N → ℕ → Sat E N → Type 0
  looked caller entries st m r m' = (about : E) × (m' ≡ (record m.0 { stage = Idle }, m.1)) × (m.0.opened ≡ about ∷ []) × Begins (entries about) m.0.seen
      × MeetsBoth caller m.0.number m.0.taken m.0.ours m.0.theirs m.0.seen

  -- what the table keeps of a seat
  abbrev pub view : Seat (Option E) (SeatView E N) → SeatView E N
  view p = p.me.0

  -- it is a seat at this table, which has three words and a slot
  abbrev pub IsAt : {P : Type 0} → Shared (Option E) (SeatView E N) (Snapshot E) P → Seat (Option E) (SeatView E N) → Type 0
  IsAt t p = (p.table_id ≡ t.table_id) × (t.table_id.words ≡ 3) × (t.table_id.slots ≡ 1) × (p.me.0.opened ≡ t.key.value ∷ [])

  -- it is out of its round, and holds no slot
  abbrev pub IsIdle : Seat (Option E) (SeatView E N) → Type 0
  IsIdle p = (p.me.0.stage ≡ Idle) × (p.me.1 ≡ [])

  -- a seat as contracts see it
  abbrev pub shown : TableId → SeatView E N → Knowledge E N
  shown z v = record { turn = z; opened = v.opened; number = v.number; seen = v.seen; given = v.given; taken = v.taken }
