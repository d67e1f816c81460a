-- Answers, counted.
use Rattle.std.proofs.Common.{◌≡◌, ℕ, ◌+◌, ◌-◌, ◌^◌, ◌<◌, ◌≤◌, List, [], ◌∷◌, ◌++◌, length, refl, sym, ap, ◌∙◌, arith, length-append}
use Rattle.std.specs.Prelude.{Some, None}
use Rattle.ucon_model.specs.declared.reply.Head.TheVariants as heads
use Rattle.ucon_model.specs.Plain.{PlainReply, refused, made, value_is, status}
use Rattle.ucon_model.specs.Summary.{LineReply, Counts, with_reply, with_line, counted_from}
use Rattle.ucon_trial.specs.declared.summary.Tally.{Tally}
use Rattle.ucon_trial.specs.Tallies.{counts_of, more, after_line, after_reply, revocations, total, IsTally}

counted-snoc : (n : Counts) (told : List LineReply) (t : LineReply) → counted_from n (told ++ t ∷ []) ≡ with_line t.reply (counted_from n told)
counted-snoc n [] t = refl
counted-snoc n (x ∷ told) t = counted-snoc (with_line x.reply n) told t

fits : (n k : ℕ) → n + k < 2 ^ 128 → more n k ≡ n + k
fits n k lt = omega (arith, lt)

abbrev one_line : Counts → Counts
one_line n = record n { lines = n.lines + 1 }

-- one answer more can be counted
record HasRoom (t : Tally) : Type 0 where
  below : total (counts_of t) + 3 < 2 ^ 128
  revoked : t.revoked + (2 ^ 64 - 1) < 2 ^ 128

line_exact : (t : Tally) → HasRoom t → counts_of (after_line t) ≡ one_line (counts_of t)
line_exact t room = rw (fits t.lines 1 (omega (arith, room.below))) refl

reply_exact : (r : PlainReply) (t : Tally) → HasRoom t → revocations r < 2 ^ 64 → counts_of (after_reply r (after_line t)) ≡ with_reply r (one_line (counts_of t))
reply_exact (refused r) t room few = rw (fits t.lines 1 (omega (arith, room.below)), fits t.refused 1 (omega (arith, room.below))) refl
reply_exact (made heads.Ok revoked) t room few =
    rw (fits t.lines 1 (omega (arith, room.below)), fits t.steps 1 (omega (arith, room.below)), fits t.revoked (length revoked) (omega (arith, room.revoked, few))) refl
reply_exact (made (heads.Permitted n) revoked) t room few =
    rw (
      fits t.lines 1 (omega (arith, room.below)),
      fits t.steps 1 (omega (arith, room.below)),
      fits t.revoked (length revoked) (omega (arith, room.revoked, few)),
      fits t.permitted 1 (omega (arith, room.below)),
    ) refl
reply_exact (made (heads.Denied n label) revoked) t room few =
    rw (
      fits t.lines 1 (omega (arith, room.below)),
      fits t.steps 1 (omega (arith, room.below)),
      fits t.revoked (length revoked) (omega (arith, room.revoked, few)),
      fits t.denied 1 (omega (arith, room.below)),
    ) refl
reply_exact (made (heads.Waiting n label) revoked) t room few =
    rw (
      fits t.lines 1 (omega (arith, room.below)),
      fits t.steps 1 (omega (arith, room.below)),
      fits t.revoked (length revoked) (omega (arith, room.revoked, few)),
      fits t.waiting 1 (omega (arith, room.below)),
    ) refl
reply_exact (made (heads.Ended n) revoked) t room few =
    rw (
      fits t.lines 1 (omega (arith, room.below)),
      fits t.steps 1 (omega (arith, room.below)),
      fits t.revoked (length revoked) (omega (arith, room.revoked, few)),
      fits t.ended 1 (omega (arith, room.below)),
    ) refl
reply_exact (value_is v) t room few = line_exact t room
reply_exact (status n state) t room few = line_exact t room

at_most : (n k : ℕ) → more n k ≤ n + k
at_most n k = omega arith

line_below : (t : Tally) → total (counts_of (after_line t)) ≤ total (counts_of t) + 3
line_below t = omega (arith, at_most t.lines 1)

reply_below : (r : PlainReply) (t : Tally) → total (counts_of (after_reply r (after_line t))) ≤ total (counts_of t) + 3
reply_below (refused r) t = omega (arith, at_most t.lines 1, at_most t.refused 1)
reply_below (made heads.Ok revoked) t = omega (arith, at_most t.lines 1, at_most t.steps 1)
reply_below (made (heads.Permitted n) revoked) t = omega (arith, at_most t.lines 1, at_most t.steps 1, at_most t.permitted 1)
reply_below (made (heads.Denied n label) revoked) t = omega (arith, at_most t.lines 1, at_most t.steps 1, at_most t.denied 1)
reply_below (made (heads.Waiting n label) revoked) t = omega (arith, at_most t.lines 1, at_most t.steps 1, at_most t.waiting 1)
reply_below (made (heads.Ended n) revoked) t = omega (arith, at_most t.lines 1, at_most t.steps 1, at_most t.ended 1)
reply_below (value_is v) t = line_below t
reply_below (status n state) t = line_below t

revoked_below : (r : PlainReply) (t : Tally) → revocations r < 2 ^ 64 → (after_reply r (after_line t)).revoked ≤ t.revoked + (2 ^ 64 - 1)
revoked_below (refused r) t few = omega arith
revoked_below (made heads.Ok revoked) t few = omega (arith, few, at_most t.revoked (length revoked))
revoked_below (made (heads.Permitted n) revoked) t few = omega (arith, few, at_most t.revoked (length revoked))
revoked_below (made (heads.Denied n label) revoked) t few = omega (arith, few, at_most t.revoked (length revoked))
revoked_below (made (heads.Waiting n label) revoked) t few = omega (arith, few, at_most t.revoked (length revoked))
revoked_below (made (heads.Ended n) revoked) t few = omega (arith, few, at_most t.revoked (length revoked))
revoked_below (value_is v) t few = omega arith
revoked_below (status n state) t few = omega arith

-- one answer more
one_more : (t : Tally) (told : List LineReply) (last : LineReply) (t' : Tally) → IsTally t told → (HasRoom t → counts_of t' ≡ with_line last.reply (counts_of t))
    → total (counts_of t') ≤ total (counts_of t) + 3 → t'.revoked ≤ t.revoked + (2 ^ 64 - 1) → IsTally t' (told ++ last ∷ [])
one_more t told last t' is exact below revoked =
    let len : length (told ++ last ∷ []) ≡ length told + 1 = length-append told (last ∷ []) in record {
      exact = λ few. (
          let room : HasRoom t = record { below = omega (arith, is.below, few, len); revoked = omega (arith, is.revoked, few, len) } in
          exact room ∙ ap (with_line last.reply) (is.exact (omega (arith, few, len))) ∙ sym (counted-snoc _ told last)
          );
      below = omega (arith, is.below, below, len);
      revoked = omega (arith, is.revoked, revoked, len);
    }

pub none_more : (t : Tally) (told : List LineReply) (last : LineReply) → last.reply ≡ None → IsTally t told → IsTally (after_line t) (told ++ last ∷ [])
none_more t told last none is = one_more t told last (after_line t) is (λ room. rw none (line_exact t room)) (line_below t) (omega arith)

pub reply_more : (t : Tally) (told : List LineReply) (last : LineReply) (place : ℕ) (r : PlainReply) → last.reply ≡ Some (place, r) → revocations r < 2 ^ 64
    → IsTally t told → IsTally (after_reply r (after_line t)) (told ++ last ∷ [])
reply_more t told last place r some few is =
    one_more t told last (after_reply r (after_line t)) is (λ room. rw some (reply_exact r t room few)) (reply_below r t) (revoked_below r t few)
