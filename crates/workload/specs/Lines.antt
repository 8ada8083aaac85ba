-- The lines of the workload.
use Rattle.std.specs.Prelude.{◌≡◌, ℕ, ◌+◌, ◌<◌, ◌^◌, min, List, length, map, slice_get, slice_index_or, sum_by, take, Option, Ok}
use Rattle.std.specs.List.{range_with_len}
use Rattle.serde_json.specs.Data.{Data}
use Rattle.plan_json.specs.Adds.{text_of}
use Rattle.plan_json.specs.Object.{data_of}
use Rattle.workload.specs.declared.subject.Subject.TheVariants.{Plan}
use Rattle.workload.specs.Generator.{number_after}
use Rattle.workload.specs.Subjects.{subjects, requests_of, draws_of}
use Rattle.workload.specs.Documents.{document}

-- a workload: what its generator begins with, how many workers its desk has, and how many of its lines were given
pub record WorkloadSeen : Type 0 where
  pub number : ℕ
  pub workers : ℕ
  pub given : ℕ

-- the number that the generator has before the line at this place: that after the draws of all lines before it
abbrev pub number_before : ℕ → ℕ → ℕ
number_before number place = number_after number (sum_by draws_of (take place subjects))

-- the document at a place
abbrev pub document_at : ℕ → ℕ → ℕ → Data
document_at number workers place = document workers (number_before number place) (slice_index_or subjects place Plan)

-- the line at a place: its text
abbrev pub line_at : ℕ → ℕ → ℕ → List ℕ
line_at number workers place = text_of (document_at number workers place)

-- all lines, each without its newline
abbrev pub workload_lines : ℕ → ℕ → List (List ℕ)
workload_lines number workers = map (line_at number workers) (range_with_len 0 (length subjects))

-- the line that a workload gives next, if there is one
abbrev pub line_next : WorkloadSeen → Option (List ℕ)
line_next w = slice_get (workload_lines w.number w.workers) w.given

-- the workload once it has given its next line, or as it is where none is left
abbrev pub one_given : WorkloadSeen → WorkloadSeen
one_given w = record w { given = min (w.given + 1) (length subjects) }

-- a workload has 211 lines
abbrev pub HasSoManyLines : Type 0
HasSoManyLines = (number workers : ℕ) → length (workload_lines number workers) ≡ 211

-- its groups have 120 requests in all
abbrev pub HasSoManyRequests : Type 0
HasSoManyRequests = sum_by requests_of subjects ≡ 120

-- each line is read as the document that it is the text of
abbrev pub AreReadBack : Type 0
AreReadBack = (number workers place : ℕ) → workers < 2 ^ 64 → place < 211 → data_of (line_at number workers place) ≡ Ok (document_at number workers place)
