-- A text put into a list. Assumes nothing.
use Rattle.std.specs.Prelude.{◌≡◌, List, ◌++◌, ℕ, ◌+◌, ◌≤◌, length, take, drop}
use Rattle.text.specs.declared.writer.Writer.{Writer}

-- a text laid over a list from `at` on
abbrev pub laid : ℕ → List ℕ → List ℕ → List ℕ
laid at t s = take at s ++ (t ++ drop (at + length t) s)

-- the text t was written into s at `at`, and nothing else: s became u, and `next` is the place behind t
pub record Put (at : ℕ) (t s u : List ℕ) (next : ℕ) : Type 0 where
  pub room : at + length t ≤ length s
  pub written : u ≡ laid at t s
  pub place : next ≡ at + length t

-- the writer w put the text t into its buffer where it stood, and is now u
pub record Puts (t : List ℕ) (w u : Writer) : Type 0 where
  pub same_buffer : u.out.ghost_name ≡ w.out.ghost_name
  pub put : Put w.at t w.out.now u.out.now u.at
