-- Rounds, line by line.
use Rattle.std.proofs.Common.{◌≡◌, ℕ, List, [], ◌∷◌, ◌++◌, append_assoc, refl, sym, ap, subst, ◌∙◌, arith}
use Rattle.ucon_base.specs.Elements.{Each}
use Rattle.ucon_model.specs.Plain.{Bytes}
use Rattle.ucon_tell.specs.Talk.{Round, told_in}
use Rattle.ucon_tell.specs.Told.{IsWithin, Told, lines_of, replies_of}
use Rattle.ucon_converse.specs.Exchanges.{AnswersAll, AnswersEach, Exchange, IsAnswered, behind, lines_in, replies_in}
use Rattle.ucon_converse.specs.Replies.{IsTooLong}

-- ---- lists of lines

pub lines_of_append : (xs ys : List Told) → lines_of (xs ++ ys) ≡ lines_of xs ++ lines_of ys
lines_of_append [] ys = refl
lines_of_append (x ∷ xs) ys = ap (λ (r : List ℕ). x.line ++ 10 ∷ r) (lines_of_append xs ys) ∙ sym (append_assoc x.line (10 ∷ lines_of xs) (lines_of ys))

pub replies_of_append : (xs ys : List Told) → replies_of (xs ++ ys) ≡ replies_of xs ++ replies_of ys
replies_of_append [] ys = refl
replies_of_append (x ∷ xs) ys = ap (λ (r : List ℕ). x.reply ++ r) (replies_of_append xs ys) ∙ sym (append_assoc x.reply (replies_of xs) (replies_of ys))

lines_in_append : {S : Type 0} (xs ys : List (Exchange S)) → lines_in (xs ++ ys) ≡ lines_in xs ++ lines_in ys
lines_in_append [] ys = refl
lines_in_append (x ∷ xs) ys = ap (λ (r : List ℕ). x.line ++ 10 ∷ r) (lines_in_append xs ys) ∙ sym (append_assoc x.line (10 ∷ lines_in xs) (lines_in ys))

replies_in_append : {S : Type 0} (xs ys : List (Exchange S)) → replies_in (xs ++ ys) ≡ replies_in xs ++ replies_in ys
replies_in_append [] ys = refl
replies_in_append (x ∷ xs) ys = ap (λ (r : List ℕ). x.reply ++ r) (replies_in_append xs ys) ∙ sym (append_assoc x.reply (replies_in xs) (replies_in ys))

behind_append : {S : Type 0} (first : S) (xs ys : List (Exchange S)) → behind first (xs ++ ys) ≡ behind (behind first xs) ys
behind_append first [] ys = refl
behind_append first (x ∷ xs) ys = behind_append x.after xs ys

module _ {S : Type 0} (gives : S → S → Bytes → Bytes → Type 0) where
  abbrev Each' : S → List (Exchange S) → S → Type 0
  Each' first xs last = AnswersEach 65546 gives IsTooLong first xs last

  each_append : (first mid last : S) (xs ys : List (Exchange S)) → Each' first xs mid → Each' mid ys last → Each' first (xs ++ ys) last
  each_append first mid last [] ys p q = subst (λ (s : S). Each' s ys last) (sym p) q
  each_append first mid last (x ∷ xs) ys p q = (p.0, each_append x.after mid last xs ys p.1 q)

  -- ---- one round

  -- what was told together, line by line
  pub record Along (first last : S) (told : List Told) : Type 0 where
    pub exchanges : List (Exchange S)
    pub answered : Each' first exchanges last
    pub lines : lines_in exchanges ≡ lines_of told
    pub replies : replies_in exchanges ≡ replies_of told
    pub ends : behind first exchanges ≡ last

  pub given_along : (first last : S) (told : List Told) → Each (IsWithin 65546) told → AnswersAll gives first last told → Along first last told
  given_along first last [] each given = record { exchanges = []; answered = given; lines = refl; replies = refl; ends = given }
  given_along first last (t ∷ told) each given =
      let rest = given_along given.0 last told each.1 given.2 in
      let one = each.0 in
      record {
        exchanges = record { line = t.line; reply = t.reply; after = given.0 } ∷ rest.exchanges;
        answered = (
          record {
            line = one.line;
            reply = one.reply;
            answer = λ lt. given.1;
            refusal = λ le. let lt = one.fits in absurd (let no : ⊥ = omega arith in no);
          },
          rest.answered,
        );
        lines = ap (λ (l : Bytes). t.line ++ 10 ∷ l) rest.lines;
        replies = ap (λ (l : Bytes). t.reply ++ l) rest.replies;
        ends = rest.ends;
      }

  -- a line that was too long
  pub refused_along : (first last : S) (told : List Told) (one : Told) → told ≡ one ∷ [] → (a : IsAnswered 65546 gives IsTooLong first (record { line = one.line; reply = one.reply; after = last }))
      → Along first last told
  refused_along first last told one alone a = record {
    exchanges = record { line = one.line; reply = one.reply; after = last } ∷ [];
    answered = (a, refl);
    lines = ap lines_of (sym alone);
    replies = ap replies_of (sym alone);
    ends = refl;
  }

  -- ---- all rounds, over what shows each keeper's standing

  module _ {K : Type 0} (show : K → S) where
    -- up to one round and with it
    pub record UpTo (first : S) (exchanges : List (Exchange S)) (earlier : List (Round K)) (one : Round K) : Type 0 where
      pub by_then : List (Exchange S)
      pub later : List (Exchange S)
      pub all : exchanges ≡ by_then ++ later
      pub replies : replies_in by_then ≡ replies_of (told_in earlier) ++ replies_of one.told
      pub ends : behind first by_then ≡ show one.after

    pub record AllAlong (first last : S) (rounds : List (Round K)) : Type 0 where
      pub exchanges : List (Exchange S)
      pub answered : Each' first exchanges last
      pub lines : lines_in exchanges ≡ lines_of (told_in rounds)
      pub replies : replies_in exchanges ≡ replies_of (told_in rounds)
      pub cut : (earlier : List (Round K)) (one : Round K) (later : List (Round K)) → rounds ≡ earlier ++ one ∷ later → UpTo first exchanges earlier one

    never_nothing : (earlier : List (Round K)) (one : Round K) (later : List (Round K)) → [] ≡ earlier ++ one ∷ later → ⊥
    never_nothing [] one later is = cc is
    never_nothing (r ∷ earlier) one later is = cc is

    pub no_rounds : (first last : S) → first ≡ last → AllAlong first last []
    no_rounds first last same = record {
      exchanges = [];
      answered = same;
      lines = refl;
      replies = refl;
      cut = λ earlier one later is. absurd (never_nothing earlier one later is);
    }

    pub one_more : (first last : S) (r : Round K) (rounds : List (Round K)) → Along first (show r.after) r.told → AllAlong (show r.after) last rounds
        → AllAlong first last (r ∷ rounds)
    one_more first last r rounds a rest = record {
      exchanges = a.exchanges ++ rest.exchanges;
      answered = each_append first (show r.after) last a.exchanges rest.exchanges a.answered rest.answered;
      lines = lines_in_append a.exchanges rest.exchanges ∙ (λ i. a.lines i ++ rest.lines i) ∙ sym (lines_of_append r.told (told_in rounds));
      replies = replies_in_append a.exchanges rest.exchanges ∙ (λ i. a.replies i ++ rest.replies i) ∙ sym (replies_of_append r.told (told_in rounds));
      cut = cut;
    }
      where
        cut : (earlier : List (Round K)) (one : Round K) (later : List (Round K)) → r ∷ rounds ≡ earlier ++ one ∷ later → UpTo first (a.exchanges ++ rest.exchanges) earlier one
        cut [] one later is =
            let same : r ≡ one = cc is in
            subst (λ (x : Round K). UpTo first (a.exchanges ++ rest.exchanges) [] x) same
            (record { by_then = a.exchanges; later = rest.exchanges; all = refl; replies = a.replies; ends = a.ends })
        cut (e ∷ earlier) one later is =
            let same : r ≡ e = cc is in
            let others : rounds ≡ earlier ++ one ∷ later = cc is in
            let u = rest.cut earlier one later others in
            let so : UpTo first (a.exchanges ++ rest.exchanges) (r ∷ earlier) one = record {
              by_then = a.exchanges ++ u.by_then;
              later = u.later;
              all = ap (λ (l : List (Exchange S)). a.exchanges ++ l) u.all ∙ sym (append_assoc a.exchanges u.by_then u.later);
              replies = replies_in_append a.exchanges u.by_then ∙ ((λ i. a.replies i ++ u.replies i)
                  ∙ (sym (append_assoc (replies_of r.told) (replies_of (told_in earlier)) (replies_of one.told))
                  ∙ ap (λ (l : Bytes). l ++ replies_of one.told) (sym (replies_of_append r.told (told_in earlier)))));
              ends = behind_append first a.exchanges u.by_then ∙ (ap (λ (s : S). behind s u.by_then) a.ends ∙ u.ends);
            } in
            subst (λ (x : Round K). UpTo first (a.exchanges ++ rest.exchanges) (x ∷ earlier) one) same so
