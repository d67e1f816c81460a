-- Lines and their replies, one after the other.
use Rattle.std.specs.Prelude.{◌≡◌, ℕ, ◌<◌, ◌≤◌, List, [], ◌∷◌, ◌++◌, length}
use Rattle.ucon_flow.specs.Lines.{IsBare, IsLine}
use Rattle.ucon_tell.specs.Told.{Told}

-- a line without its newline, the reply with its own, and what was there when it had been answered
pub record Exchange (K : Type 0) : Type 0 where
  pub line : List ℕ
  pub reply : List ℕ
  pub after : K

-- all lines, each with its newline
abbrev pub lines_in : {K : Type 0} → List (Exchange K) → List ℕ
lines_in [] = []
lines_in (x ∷ xs) = x.line ++ 10 ∷ lines_in xs

-- all replies
abbrev pub replies_in : {K : Type 0} → List (Exchange K) → List ℕ
replies_in [] = []
replies_in (x ∷ xs) = x.reply ++ replies_in xs

-- these lines were given these replies, one after the other, from here to there
abbrev pub AnswersAll : {K : Type 0} → (K → K → List ℕ → List ℕ → Type 0) → K → K → List Told → Type 0
AnswersAll answers before after [] = before ≡ after
AnswersAll {K} answers before after (t ∷ told) = (between : K) × answers before between t.line t.reply × AnswersAll answers between after told

-- what was there behind these exchanges
abbrev pub behind : {K : Type 0} → K → List (Exchange K) → K
behind first [] = first
behind first (x ∷ xs) = behind x.after xs

-- One line was answered by one line. If it fits the limit with its newline, it was answered so. Otherwise it was refused so, and nothing changed.
pub record IsAnswered {K : Type 0} (limit : ℕ) (answers : K → K → List ℕ → List ℕ → Type 0) (refuses : K → List ℕ → Type 0)
    (before : K) (x : Exchange K) : Type 0 where
  pub line : IsBare x.line
  pub reply : IsLine x.reply
  pub answer : length x.line < limit → answers before x.after x.line x.reply
  pub refusal : limit ≤ length x.line → (x.after ≡ before) × refuses before x.reply

-- one line was answered after the other, from here to there
abbrev pub AnswersEach : {K : Type 0} → ℕ → (K → K → List ℕ → List ℕ → Type 0) → (K → List ℕ → Type 0) → K → List (Exchange K) → K → Type 0
AnswersEach limit answers refuses first [] last = first ≡ last
AnswersEach limit answers refuses first (x ∷ xs) last = IsAnswered limit answers refuses first x × AnswersEach limit answers refuses x.after xs last
