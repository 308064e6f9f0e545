-- Where a table's entries start, and what is made of an answer.
-- Assumes nothing: these are definitions.
use Rattle.std.specs.Prelude.{ℕ, ◌*◌, ◌-◌, ◌≤◌, List, length, drop, Option, Result, Ok, Err}
use Rattle.format.specs.Digits.{bits_of}
use Rattle.format.specs.Syntax.{Parse}
use Rattle.format.specs.Whole.{starts}
use Rattle.format.specs.Lists.{list_id, entry_syntax, least_bits, head_syntax}
use Rattle.format.specs.At.{read, Starts}
use Rattle.format.specs.declared.Refusal.{Refusal}
use Rattle.format.specs.declared.Found.{Found}
use Rattle.format.specs.declared.tables.ListTable.{ListTable}
use Rattle.entries.specs.declared.Walk.{Walk}

-- the places at which the entries of a list start, from a place of the body on
abbrev pub list_starts : ListTable → List ℕ → ℕ → Parse (List ℕ)
list_starts t b p =
    let id : ℕ = list_id t in
    starts (8 * length b) (least_bits id) (entry_syntax id) (8 * length b - p) (drop p (bits_of b))

-- where the head ends and the entries start; 0 where the head is refused
unfoldable pub head_end : ℕ → List ℕ → ℕ
head_end id b = read b 0 (head_syntax id) 0 (λ ts q. q) (λ f. 0)

-- of what was read, the place behind it
abbrev pub next_of : {A : Type 0} → Result (Found A) Refusal → Result ℕ Refusal
next_of (Ok x) = Ok x.next
next_of (Err f) = Err f

-- a walk over entries: how many there are, where the one at an index starts, and where the reading ended
abbrev pub walked : ℕ → Option ℕ → ℕ → Result Walk Refusal
walked n p e = Ok (record { count = n; place = p; end = e })

-- what holds of a walk that began at a place q: at the place that it hands out an entry can be read, and it ended no
-- earlier than q
pub record Placed (b : List ℕ) (q : ℕ) (w : Walk) : Type 0 where
  pub short : length b ≤ 4096
  pub starts : Starts b w.place
  pub on : q ≤ w.end

abbrev pub SureIn : List ℕ → ℕ → Result Walk Refusal → Type 0
SureIn b q (Ok w) = Placed b q w
SureIn b q (Err f) = Unit {0}

pub record Sure (b : List ℕ) (q : ℕ) (r : Result Walk Refusal) : Type 0 where
  pub to : SureIn b q r
