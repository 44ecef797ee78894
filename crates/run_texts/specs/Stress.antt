-- The source of `stress`: the main thread creates jobs one after another and joins each of them. A job fills cells of its heap,
-- moves to a node, and adds them up.
use Rattle.std.specs.Prelude.{◌==◌, ℕ, ◌+◌, ◌*◌, ◌%◌, List, [], ◌∷◌, ◌++◌, if◌then◌else◌, codes, decimal}
use Rattle.std.specs.List.{flat_map, range_with_len}
use Rattle.run_texts.specs.Parts.{Text}

-- how many cells a job has
abbrev pub cells : ℕ → ℕ
cells job = 1 + job % 50

-- in a line of a job, I stands for its number, C for its cells and D for their bytes
unfoldable pub filled : ℕ → ℕ → Text
filled job letter =
    if letter == 73 then decimal job
    else (if letter == 67 then decimal (cells job)
    else (if letter == 68 then decimal (16 * cells job) else letter ∷ []))

abbrev pub job_line : ℕ → Text → Text
job_line job line = flat_map (filled job) line ++ 10 ∷ []

abbrev pub job_lines : List Text → ℕ → Text
job_lines lines job = flat_map (job_line job) lines

-- each job's lines, for so many jobs
abbrev pub all_jobs : List Text → ℕ → Text
all_jobs lines jobs = flat_map (job_lines lines) (range_with_len 0 jobs)

-- in the main thread
unfoldable pub in_main : List Text
in_main =
    codes "  la a0, jobI" ∷ codes "  li a1, I" ∷ codes "  li a2, 3" ∷ codes "  li a7, 6" ∷ codes "  ecall"
    ∷ codes "  li a7, 7" ∷ codes "  ecall" ∷ codes "  add s1, s1, a1" ∷ []

-- the job
unfoldable pub in_job : List Text
in_job =
    codes "jobI:" ∷ codes "  li s0, C" ∷ codes "  li a0, D" ∷ codes "  li a7, 12" ∷ codes "  ecall" ∷ codes "  mv s1, a0"
    ∷ codes "  li s2, 0"
    ∷ codes "fillI:" ∷ codes "  slli t0, s2, 4" ∷ codes "  add t0, t0, s1" ∷ codes "  sd s2, 0(t0)" ∷ codes "  addi s2, s2, 1"
    ∷ codes "  blt s2, s0, fillI"
    ∷ codes "  li a7, 4" ∷ codes "  ecall" ∷ codes "  mv s3, a0" ∷ codes "  li a0, I"
    ∷ codes "modI:" ∷ codes "  blt a0, s3, goI" ∷ codes "  sub a0, a0, s3" ∷ codes "  j modI"
    ∷ codes "goI:" ∷ codes "  li a7, 14" ∷ codes "  ecall" ∷ codes "  li s2, 0" ∷ codes "  li s4, 0"
    ∷ codes "sumI:" ∷ codes "  slli t0, s2, 4" ∷ codes "  add t0, t0, s1" ∷ codes "  ld t1, 0(t0)" ∷ codes "  add s4, s4, t1"
    ∷ codes "  addi s2, s2, 1" ∷ codes "  blt s2, s0, sumI"
    ∷ codes "  mv a0, s1" ∷ codes "  li a7, 13" ∷ codes "  ecall" ∷ codes "  mv a0, s4" ∷ codes "  ret" ∷ []

-- the source with so many jobs
abbrev pub stress_source : ℕ → Text
stress_source jobs = codes "main:\n" ++ (all_jobs in_main jobs ++ (codes "  mv a0, s1\n  ret\n" ++ all_jobs in_job jobs))
