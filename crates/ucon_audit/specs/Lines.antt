-- How an audit is printed.
use Rattle.std.specs.Prelude.{ℕ, Bool, true, false, [], ◌∷◌, ◌++◌, codes, decimal, length, Option, Some, None}
use Rattle.std.specs.List.{flat_map}
use Rattle.ucon_model.specs.Action.{Trace}
use Rattle.ucon_model.specs.declared.session.Verdict.{Verdict}
use Rattle.ucon_model.specs.declared.session.Verdict.TheVariants.{Permit, Deny, Wait}
use Rattle.ucon_model.specs.Plain.{Bytes, PlainPolicy}
use Rattle.ucon_audit.specs.declared.parallel.Changed.{Changed}
use Rattle.ucon_audit.specs.Head.{head_text}
use Rattle.ucon_audit.specs.Recheck.{changed_after}
use Rattle.ucon_audit.specs.Usages.{usages}

-- `records 5`: a word and a number
abbrev pub count_line : Bytes → ℕ → Bytes
count_line word n = word ++ 32 ∷ (decimal n ++ 10 ∷ [])

-- `head 5ab67d..`
abbrev pub head_line : Bytes → Bytes
head_line head = codes "head " ++ (head_text head ++ 10 ∷ [])

abbrev pub yes_or_no : Bool → Bytes
yes_or_no true = codes "yes"
yes_or_no false = codes "no"

-- `extends yes` or `extends no`, if a head was kept
abbrev pub extends_line : Option Bool → Bytes
extends_line None = []
extends_line (Some answer) = codes "extends " ++ (yes_or_no answer ++ 10 ∷ [])

-- ` deny LABEL` or ` wait LABEL`
abbrev pub verdict_words : Verdict → Bytes
verdict_words Permit = []
verdict_words (Deny label) = codes " deny " ++ label
verdict_words (Wait label) = codes " wait " ++ label

-- `session 1 deny funds`
abbrev pub changed_line : Changed → Bytes
changed_line c = codes "session " ++ (decimal c.session ++ (verdict_words c.verdict ++ 10 ∷ []))

-- how many uses go on after a trace, and each that wouldn't be permitted now, by rising number
abbrev pub usages_lines : PlainPolicy → Trace → Bytes
usages_lines P T = count_line (codes "accessing") (length (usages T)) ++ flat_map changed_line (changed_after P T (usages T))

-- all lines of an audit: how many records and entries, the head, whether a kept head is extended, and the uses that go on
abbrev pub audit_lines : (records entries : ℕ) (head : Bytes) → Option Bool → PlainPolicy → Trace → Bytes
audit_lines records entries head extends P T =
    count_line (codes "records") records ++ (count_line (codes "entries") entries ++ (head_line head ++ (extends_line extends ++ usages_lines P T)))
