-- What contracts see of a log that is written whole, with all its gates open, into a file that nobody reads yet.
use Rattle.std.specs.Prelude.{◌≡◌, ℕ, ◌≤◌, List, ◌++◌, length, take, Option, IfSome}
use Rattle.std.specs.List.{All}
use Rattle.coco_host.specs.Files.{Files}
use Rattle.coco_log.specs.Grammar.{front, header, IsLog, IsShort}

-- a draft: its file and kind, how many bytes of its log stand in the file, and those that are to come
pub record Drafted : Type 0 where
  pub file : ℕ
  pub kind : ℕ
  pub written : ℕ
  pub rest : List ℕ

-- a draft of which nothing was written
abbrev pub begun : ℕ → ℕ → Drafted
begun file kind = record { file = file; kind = kind; written = 0; rest = header kind }

-- the file's first bytes and those to come are a log's with entries of these bodies, up to its last gate
pub record IsDrafted (draft : Drafted) (bodies : List (List ℕ)) (file : List ℕ) : Type 0 where
  pub short : All IsShort bodies
  pub there : draft.written ≤ length file
  pub is : take draft.written file ++ draft.rest ≡ front draft.kind bodies

-- that is so of the draft's file, where the host tells what it reads as
abbrev pub Drafts : Drafted → List (List ℕ) → Option Files → Type 0
Drafts draft bodies reads = IfSome reads (λ files. IsDrafted draft bodies (files draft.file))

-- one of the files is a log with entries of these bodies, and a crash leaves it so
pub record KeepsLog (kind : ℕ) (bodies : List (List ℕ)) (file : ℕ) (files : Files) (may_leave : Files → Type 0) : Type 0 where
  pub log : IsLog kind bodies (files file)
  pub durable : (c : Files) → may_leave c → c file ≡ files file

-- that is so of what the files read as, where the host tells it
abbrev pub HasLog : ℕ → List (List ℕ) → ℕ → Option Files → (Files → Type 0) → Type 0
HasLog kind bodies file reads may_leave = IfSome reads (λ files. KeepsLog kind bodies file files may_leave)
