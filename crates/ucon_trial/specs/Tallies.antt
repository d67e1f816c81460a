-- What is counted of answers, in numbers of 128 bits.
use Rattle.std.specs.Prelude.{◌≡◌, ℕ, ◌+◌, ◌-◌, ◌*◌, ◌^◌, ◌<◌, ◌≤◌, min, List, length}
use Rattle.ucon_model.specs.declared.reply.Head.{Head}
use Rattle.ucon_model.specs.declared.reply.Head.TheVariants as heads
use Rattle.ucon_model.specs.Plain.{PlainReply, refused, made, value_is, status}
use Rattle.ucon_model.specs.Summary.{LineReply, Counts, counts}
use Rattle.ucon_trial.specs.declared.summary.Tally.{Tally}

abbrev pub counts_of : Tally → Counts
counts_of t = record {
  lines = t.lines;
  steps = t.steps;
  permitted = t.permitted;
  denied = t.denied;
  waiting = t.waiting;
  ended = t.ended;
  revoked = t.revoked;
  refused = t.refused;
}

-- so many more, up to the last value
abbrev pub more : ℕ → ℕ → ℕ
more n k = min (n + k) (2 ^ 128 - 1)

abbrev pub after_line : Tally → Tally
after_line t = record t { lines = more t.lines 1 }

abbrev pub after_head : Head → Tally → Tally
after_head heads.Ok t = t
after_head (heads.Permitted session) t = record t { permitted = more t.permitted 1 }
after_head (heads.Denied session label) t = record t { denied = more t.denied 1 }
after_head (heads.Waiting session label) t = record t { waiting = more t.waiting 1 }
after_head (heads.Ended session) t = record t { ended = more t.ended 1 }

abbrev pub after_reply : PlainReply → Tally → Tally
after_reply (refused r) t = record t { refused = more t.refused 1 }
after_reply (made head revoked) t = after_head head (record t { steps = more t.steps 1; revoked = more t.revoked (length revoked) })
after_reply (value_is v) t = t
after_reply (status session state) t = t

-- how many revocations a reply tells
abbrev pub revocations : PlainReply → ℕ
revocations (made head revoked) = length revoked
revocations r = 0

-- all counts but that of revocations together
abbrev pub total : Counts → ℕ
total n = n.lines + n.steps + n.permitted + n.denied + n.waiting + n.ended + n.refused

-- of fewer than 2^64 answers the counts are exact
pub record IsTally (t : Tally) (told : List LineReply) : Type 0 where
  pub exact : length told < 2 ^ 64 → counts_of t ≡ counts told
  pub below : total (counts_of t) ≤ 3 * length told
  pub revoked : t.revoked ≤ (2 ^ 64 - 1) * length told
