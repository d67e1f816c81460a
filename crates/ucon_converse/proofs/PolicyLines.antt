-- A policy's text, taken line by line.
use Rattle.std.proofs.Common.{◌≡◌, inl, inr, ⊎_elim, true, false, ℕ, ◌+◌, ◌<◌, ◌≤◌, min, lit<, length-append, length-take, List, [], ◌∷◌, ◌++◌, length, append_assoc, refl, sym, ap, subst, ◌∙◌, arith}
use Rattle.std.proofs.lemmas.Bool.{eqb-true}
use Rattle.std.proofs.lemmas.List.{append-nil, append_cancel_right}
use Rattle.std.proofs.lemmas.List.Sums.{fails_before_first}
use Rattle.std.proofs.lemmas.List.Splits.{slice_split_at, slice_split_none}
use Rattle.std.proofs.lemmas.Slice.Eq.{bytes_eq-Decides}
use Rattle.std.proofs.KnownBytes.{Consumes-nil}
use Rattle.std.specs.Prelude.{Bool, ◌==◌, not, cond, codes, Option, Some, None, option_map, unwrap_or, if◌then◌else◌}
use Rattle.std.specs.Io.KnownBytes.{Consumes, IsAtEnd}
use Rattle.ucon_flow.specs.Lines.{GivesLine, Holds, IsBare, IsLine, IsNoLine, Reading, first_line, newline}
use Rattle.ucon_flow.specs.Seen.{SourceSeen}
use Rattle.ucon_model.specs.Document.{before_divider, is_divider, lines_of, policy_part}
use Rattle.ucon_model.specs.Plain.{Bytes}
use Rattle.ucon_converse.specs.PolicyPart.{IsLongPolicy, IsPartOfAll, TakesPolicy}

-- ---- the policy part of a text, by its first line

unwrap_map : (f : Bytes → Bytes) (o : Option Bytes) (x : Bytes) → unwrap_or (option_map f o) (f x) ≡ f (unwrap_or o x)
unwrap_map f None x = refl
unwrap_map f (Some t) x = refl

first_line_split : (l more : Bytes) → IsBare l → lines_of (l ++ 10 ∷ more) ≡ l ∷ lines_of more
first_line_split l more bare = slice_split_at (λ b. b == 10) l 10 more (λ k d lt. fails_before_first (λ b. b == 10) l k d (omega (arith, bare, lt))) refl

line_part : (l more : Bytes) → IsBare l → is_divider l ≡ false → policy_part (l ++ 10 ∷ more) ≡ l ++ 10 ∷ policy_part more
line_part l more bare other =
    ap (λ (ls : List Bytes). unwrap_or (before_divider ls) (l ++ 10 ∷ more)) (first_line_split l more bare)
    ∙ (ap (λ (b : Bool). unwrap_or (if b then Some [] else option_map (λ (t : Bytes). l ++ 10 ∷ t) (before_divider (lines_of more))) (l ++ 10 ∷ more)) other
    ∙ unwrap_map (λ (t : Bytes). l ++ 10 ∷ t) (before_divider (lines_of more)) more)

divider_part : (more : Bytes) → policy_part (codes "%%\n" ++ more) ≡ []
divider_part more = refl

last_part : (l : Bytes) → IsBare l → is_divider l ≡ false → policy_part l ≡ l
last_part l bare other =
    ap (λ (ls : List Bytes). unwrap_or (before_divider ls) l) (slice_split_none (λ b. b == 10) l (λ k d lt. fails_before_first (λ b. b == 10) l k d (omega (arith, bare, lt))))
    ∙ ap (λ (b : Bool). unwrap_or (if b then Some [] else option_map (λ (t : Bytes). l ++ 10 ∷ t) (before_divider [])) l) other

-- bytes that end in a newline aren't bare
no_bare_end : (t : Bytes) → IsBare (t ++ 10 ∷ []) → ⊥
no_bare_end [] bare = omega (arith, bare)
no_bare_end (b ∷ t) bare = by (b == 10) (no_bare_end t) bare
  where
    by : (is : Bool) → (newline (t ++ 10 ∷ []) ≡ length (t ++ 10 ∷ []) → ⊥) → cond (not is) (1 + newline (t ++ 10 ∷ [])) 0 ≡ length (b ∷ t ++ 10 ∷ []) → ⊥
    by true never e = omega (arith, e)
    by false never e = never (omega (arith, e))

-- ---- a part that is too long

-- bytes without a newline, or a line and what stands behind it
data Split (xs : Bytes) : Type 0 where
  whole : IsBare xs → Split xs
  cut : (l rest : Bytes) → IsBare l → xs ≡ l ++ 10 ∷ rest → newline xs ≡ length l → Split xs

longer_split : (b : ℕ) (xs : Bytes) → Split xs → (is : Bool) → (b == 10) ≡ is → Split (b ∷ xs)
longer_split b xs s true e =
    cut [] xs refl (ap (λ (n : ℕ). n ∷ xs) (eqb-true b 10 e)) (ap (λ (is : Bool). cond (not is) (1 + newline xs) 0) e)
longer_split b xs (whole bare) false e =
    whole (ap (λ (is : Bool). cond (not is) (1 + newline xs) 0) e ∙ (let more : 1 + newline xs ≡ length (b ∷ xs) = omega (arith, bare) in more))
longer_split b xs (cut l rest bare all at) false e =
    cut (b ∷ l) rest (ap (λ (is : Bool). cond (not is) (1 + newline l) 0) e ∙ (let more : 1 + newline l ≡ length (b ∷ l) = omega (arith, bare) in more))
    (ap (λ (ys : Bytes). b ∷ ys) all) (ap (λ (is : Bool). cond (not is) (1 + newline xs) 0) e ∙ (let more : 1 + newline xs ≡ length (b ∷ l) = omega (arith, at) in more))

split_line : (xs : Bytes) → Split xs
split_line [] = whole refl
split_line (b ∷ xs) = longer_split b xs (split_line xs) (b == 10) refl

newline_more : (xs more : Bytes) → newline xs ≤ newline (xs ++ more)
newline_more [] more = omega arith
newline_more (b ∷ xs) more = by (newline_more xs more) (b == 10)
  where
    by : newline xs ≤ newline (xs ++ more) → (is : Bool) → cond (not is) (1 + newline xs) 0 ≤ cond (not is) (1 + newline (xs ++ more)) 0
    by le true = omega arith
    by le false = omega (arith, le)

no_divider : (l : Bytes) → 2 < length l → is_divider l ≡ false
no_divider l long = by (is_divider l) refl
  where
    by : (is : Bool) → is_divider l ≡ is → is ≡ false
    by true e = let same : l ≡ codes "%%" = (bytes_eq-Decides l (codes "%%")).0 e in let two : length l ≡ 2 = ap length same in absurd (omega (arith, two, long))
    by false e = refl

long_part : (xs : Bytes) (k : ℕ) → 2 < k → k < newline xs + 1 → k < length xs → k < length (policy_part xs)
long_part xs k some first all = by (split_line xs)
  where
    by : Split xs → k < length (policy_part xs)
    by (whole bare) = let is : policy_part xs ≡ xs = last_part xs bare (no_divider xs (omega (arith, some, all))) in subst (λ (t : Bytes). k < length t) (sym is) all
    by (cut l rest bare whole_is at) =
        let is : policy_part xs ≡ l ++ 10 ∷ policy_part rest = ap policy_part whole_is ∙ line_part l rest bare (no_divider l (omega (arith, some, first, at))) in
        let there : k < length (l ++ 10 ∷ policy_part rest) = omega (arith, first, at, length-append l (10 ∷ policy_part rest)) in
        subst (λ (t : Bytes). k < length t) (sym is) there

-- bytes whose first line is too long, whatever follows
long_first : (xs more : Bytes) → 4194304 < length (first_line xs) → 4194304 < length (policy_part (xs ++ more))
long_first xs more long =
    let le = newline_more xs more in
    let size : length (first_line xs) ≡ min (newline xs + 1) (length xs) = length-take (newline xs + 1) xs in
    long_part (xs ++ more) 4194304 (lit< tt) (omega (arith, long, size, le)) (omega (arith, long, size, length-append xs more))

-- ---- what was taken

-- these lines came first, each with its newline and none the divider, and what was read behind them is held
pub record TakesLines (held_before held : Bytes) (left_before left : Option Bytes) (text : Bytes) : Type 0 where
  pub read : Bytes
  pub consumed : Consumes left_before left read
  pub all : held_before ++ read ≡ text ++ held
  pub plain : (more : Bytes) → policy_part (text ++ more) ≡ text ++ policy_part more

pub none_taken : (held : Bytes) (left : Option Bytes) → TakesLines held held left left []
none_taken held left = record { read = []; consumed = Consumes-nil left; all = append-nil held; plain = λ more. refl }

consumes_more : (a b c : Option Bytes) (x y : Bytes) → Consumes a b x → Consumes b c y → Consumes a c (x ++ y)
consumes_more None b c x y p q = tt
consumes_more (Some a) None c x y p q = absurd p
consumes_more (Some a) (Some b) None x y p q = absurd q
consumes_more (Some a) (Some b) (Some c) x y p q = p ∙ (ap (λ (l : Bytes). x ++ l) q ∙ sym (append_assoc x y c))

-- the first line behind the text is too long
pub long_line : {S : Type 0} (seen : S → SourceSeen) (h0 : Bytes) (left0 : Option Bytes) (old new : Reading) (first last : S) (text : Bytes)
    → TakesLines h0 old.held left0 (seen first).left text → Holds seen old new first last → 4194304 < length (first_line new.held)
    → IsLongPolicy h0 left0 (seen last).left
long_line seen h0 left0 old new first last text t h long = inl (record {
  read = t.read ++ h.read;
  consumed = consumes_more left0 (seen first).left (seen last).left t.read h.read t.consumed h.reads.consumed;
  long = λ more.
      let held : new.held ≡ old.held ++ h.read = ap (λ (r : Reading). r.held) h.same in
      let all : (h0 ++ (t.read ++ h.read)) ++ more ≡ text ++ (new.held ++ more) =
      ap (λ (l : Bytes). l ++ more) (sym (append_assoc h0 t.read h.read) ∙ (ap (λ (l : Bytes). l ++ h.read) t.all ∙ append_assoc text old.held h.read))
      ∙ (append_assoc text (old.held ++ h.read) more ∙ ap (λ (l : Bytes). text ++ (l ++ more)) (sym held)) in
      let part : policy_part ((h0 ++ (t.read ++ h.read)) ++ more) ≡ text ++ policy_part (new.held ++ more) = ap policy_part all ∙ t.plain (new.held ++ more) in
      let there = long_first new.held more long in
      let whole : 4194304 < length (text ++ policy_part (new.held ++ more)) = omega (arith, there, length-append text (policy_part (new.held ++ more))) in
      subst (λ (l : Bytes). 4194304 < length l) (sym part) whole;
})

-- what was read once more stands behind it
read_on : (h0 x text held more line now : Bytes) → h0 ++ x ≡ text ++ held → held ++ more ≡ line ++ now → h0 ++ (x ++ more) ≡ text ++ (line ++ now)
read_on h0 x text held more line now p q =
    sym (append_assoc h0 x more) ∙ (ap (λ (l : Bytes). l ++ more) p ∙ (append_assoc text held more ∙ ap (λ (l : Bytes). text ++ l) q))

module _ {S : Type 0} (seen : S → SourceSeen) (h0 : Bytes) (left0 : Option Bytes) (old new : Reading) (first last : S) (text : Bytes)
    (t : TakesLines h0 old.held left0 (seen first).left text) where
  -- the input is at its end
  pub none_left : IsNoLine seen old new first last → TakesPolicy h0 new.held left0 (seen last).left text
  none_left n = inr (record {
    read = t.read ++ [];
    consumed = consumes_more left0 (seen first).left (seen last).left t.read [] t.consumed n.reads.consumed;
    nothing = ap (λ (r : Reading). r.held) n.same ∙ n.nothing;
    ended = n.ended;
    part =
        let all : h0 ++ (t.read ++ []) ≡ text ++ [] = ap (λ (l : Bytes). h0 ++ l) (append-nil t.read) ∙ (t.all ∙ ap (λ (l : Bytes). text ++ l) n.nothing) in
        ap policy_part all ∙ (t.plain [] ∙ append-nil text);
  })

  module _ (line : Bytes) (g : GivesLine seen old new first last line) where
    consumed_so : Consumes left0 (seen last).left (t.read ++ g.read)
    consumed_so = consumes_more left0 (seen first).left (seen last).left t.read g.read t.consumed g.reads.consumed

    all_so : h0 ++ (t.read ++ g.read) ≡ text ++ (line ++ new.held)
    all_so = read_on h0 t.read text old.held g.read line new.held t.all g.all

    -- the divider came
    pub divided : line ≡ codes "%%\n" → TakesPolicy h0 new.held left0 (seen last).left text
    divided is = inl (record {
      read = t.read ++ g.read;
      consumed = consumed_so;
      all = all_so ∙ ap (λ (l : Bytes). text ++ (l ++ new.held)) is;
      part = λ more. t.plain (codes "%%\n" ++ more) ∙ append-nil text;
    })

    -- the input's last line came
    ended_so : ((u : Bytes) → line ≡ u ++ 10 ∷ [] → ⊥) → (all' : Bytes) → text ++ policy_part line ≡ all' → IsPartOfAll h0 new.held left0 (seen last).left all'
    ended_so none all' is = ⊎_elim (λ (l : IsLine line). absurd (none l.text l.line_is))
        (λ (e : IsBare line × (0 < length line) × (new.held ≡ []) × IsAtEnd (seen last).left).
        let part : IsPartOfAll h0 new.held left0 (seen last).left all' = record {
          read = t.read ++ g.read;
          consumed = consumed_so;
          nothing = e.2;
          ended = e.3;
          part =
              let all : h0 ++ (t.read ++ g.read) ≡ text ++ line = all_so ∙ (ap (λ (l : Bytes). text ++ (line ++ l)) e.2 ∙ ap (λ (l : Bytes). text ++ l) (append-nil line)) in
              ap policy_part all ∙ (t.plain line ∙ is);
        } in part) g.given

    -- it is the divider, without a newline
    pub divided_last : line ≡ codes "%%" → TakesPolicy h0 new.held left0 (seen last).left text
    divided_last is = inr (ended_so (λ u e. no_bare_end u (subst IsBare (sym is ∙ e) refl)) text (ap (λ (l : Bytes). text ++ policy_part l) is ∙ append-nil text))

    last_of : ((u : Bytes) → line ≡ u ++ 10 ∷ [] → ⊥) → is_divider line ≡ false → IsPartOfAll h0 new.held left0 (seen last).left (text ++ line)
    last_of none other = ended_so none (text ++ line) (ap (λ (l : Bytes). text ++ l) (last_part line bare other))
      where
        bare : IsBare line
        bare = ⊎_elim (λ (l : IsLine line). absurd (none l.text l.line_is)) (λ (e : IsBare line × (0 < length line) × (new.held ≡ []) × IsAtEnd (seen last).left). e.0) g.given

    -- it is a line of the policy
    pub lasted : ((u : Bytes) → line ≡ u ++ 10 ∷ [] → ⊥) → is_divider line ≡ false → TakesPolicy h0 new.held left0 (seen last).left (text ++ line)
    lasted none other = inr (last_of none other)

    -- one line more
    pub taken_on : (u : Bytes) → line ≡ u ++ 10 ∷ [] → is_divider u ≡ false → TakesLines h0 new.held left0 (seen last).left (text ++ line)
    taken_on u is other = record {
      read = t.read ++ g.read;
      consumed = consumed_so;
      all = all_so ∙ sym (append_assoc text line new.held);
      plain = λ more.
          let here : policy_part (line ++ more) ≡ line ++ policy_part more =
          ap (λ (l : Bytes). policy_part (l ++ more)) is ∙ (ap policy_part (append_assoc u (10 ∷ []) more) ∙ (line_part u more bare other
          ∙ (sym (append_assoc u (10 ∷ []) (policy_part more)) ∙ ap (λ (l : Bytes). l ++ policy_part more) (sym is)))) in
          ap policy_part (append_assoc text line more) ∙ (t.plain (line ++ more) ∙ (ap (λ (l : Bytes). text ++ l) here ∙ sym (append_assoc text line (policy_part more))));
    }
      where
        bare : IsBare u
        bare = ⊎_elim (λ (l : IsLine line). subst IsBare (append_cancel_right l.text u (10 ∷ []) (sym l.line_is ∙ is)) l.bare)
            (λ (e : IsBare line × (0 < length line) × (new.held ≡ []) × IsAtEnd (seen last).left). absurd (no_bare_end u (subst IsBare is e.0))) g.given

    -- it is a line of the policy, which is too long with it
    pub long_with : (u : Bytes) → line ≡ u ++ 10 ∷ [] → is_divider u ≡ false → 4194304 < length text + length line → IsLongPolicy h0 left0 (seen last).left
    long_with u is other long = inl (record {
      read = (taken_on u is other).read;
      consumed = (taken_on u is other).consumed;
      long = λ more.
          let t = taken_on u is other in
          let all : (h0 ++ t.read) ++ more ≡ (text ++ line) ++ (new.held ++ more) = ap (λ (l : Bytes). l ++ more) t.all ∙ append_assoc (text ++ line) new.held more in
          let part : policy_part ((h0 ++ t.read) ++ more) ≡ (text ++ line) ++ policy_part (new.held ++ more) = ap policy_part all ∙ t.plain (new.held ++ more) in
          let there : 4194304 < length ((text ++ line) ++ policy_part (new.held ++ more)) =
          omega (arith, long, length-append text line, length-append (text ++ line) (policy_part (new.held ++ more))) in
          subst (λ (l : Bytes). 4194304 < length l) (sym part) there;
    })

    -- it is the input's last, and the policy is too long with it
    pub long_last : ((u : Bytes) → line ≡ u ++ 10 ∷ [] → ⊥) → is_divider line ≡ false → 4194304 < length text + length line → IsLongPolicy h0 left0 (seen last).left
    long_last none other long =
        let p = last_of none other in
        inr (record {
          read = p.read;
          consumed = p.consumed;
          ended = p.ended;
          long = let there : 4194304 < length (text ++ line) = omega (arith, long, length-append text line) in subst (λ (l : Bytes). 4194304 < length l) (sym p.part) there;
        })
