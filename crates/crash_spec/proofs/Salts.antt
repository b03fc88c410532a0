-- The salts of a log's headers rise by one each time, so no frame that is known has those of the next one.
use Rattle.std.proofs.Common.{◌≡◌, ℕ, ◌+◌, ◌%◌, ◌^◌, ◌≤◌, ◌<◌, List, [], ◌∷◌, ◌∙◌, arith}
use Rattle.std.proofs.lemmas.List.Elements.{All-cons, All-weaker}
use Rattle.disk_face.specs.declared.disk.File.{File}
use Rattle.disk_face.specs.declared.step.Piece.{Piece}
use Rattle.page_spec.specs.Bytes.{u32_at}
use Rattle.log_spec.specs.LogHeader.{LogFields, header_size}
use Rattle.crash_spec.specs.Logs.{IsOneOf, IsFresh, IsBehind, AreBehind}

next_differs : (x n most salt : ℕ) → n ≤ most → most + 1 < 2 ^ 32 → (x + n) % 2 ^ 32 ≡ salt → x ≡ (salt + 1) % 2 ^ 32 → ⊥
next_differs x n most salt le few is same = omega arith

-- behind the next header's salt none has it
pub next_is_fresh : (known : List Piece) (log : File) (salt most : ℕ) (next : LogFields) → AreBehind known log salt most → most + 1 < 2 ^ 32 → next.salt1 ≡ (salt + 1) % 2 ^ 32 → IsFresh known log next header_size []
next_is_fresh known log salt most next behind few is =
    All-weaker (IsBehind log salt most) (IsOneOf log next header_size [])
    (λ piece by file far salts. let n = by file (omega arith) in absurd (next_differs (u32_at piece.bytes 8) n.0 most salt n.1 few n.2 (salts.0 ∙ is))) known behind

next_step : (x n salt : ℕ) → (x + n) % 2 ^ 32 ≡ salt → (x + (n + 1)) % 2 ^ 32 ≡ (salt + 1) % 2 ^ 32
next_step x n salt is = omega arith

-- and all are one more behind it
pub behind_next : (known : List Piece) (log : File) (salt most : ℕ) → AreBehind known log salt most → AreBehind known log ((salt + 1) % 2 ^ 32) (most + 1)
behind_next known log salt most behind =
    All-weaker (IsBehind log salt most) (IsBehind log ((salt + 1) % 2 ^ 32) (most + 1))
    (λ piece by file far. let n = by file far in (n.0 + 1, omega (arith, n.1), next_step (u32_at piece.bytes 8) n.0 salt n.2)) known behind

-- a frame of this header is none behind
pub behind_more : (known : List Piece) (log : File) (salt most : ℕ) (piece : Piece) → salt < 2 ^ 32 → u32_at piece.bytes 8 ≡ salt → AreBehind known log salt most → AreBehind (piece ∷ known) log salt most
behind_more known log salt most piece small is behind =
    All-cons (IsBehind log salt most) piece known (λ file far. (0, omega arith, omega arith)) behind
