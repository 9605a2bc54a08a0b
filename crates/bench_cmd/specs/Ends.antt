-- The adapters over std's readers and writers.
use Rattle.std.specs.Prelude.{ℕ}
use Rattle.bench_cmd.specs.declared.ends.ReadSource.{ReadSource}
use Rattle.bench_cmd.specs.declared.ends.WriteSink.{WriteSink}

-- the reader under a source
abbrev pub reader_of : {R : Type 0} → ReadSource R → R
reader_of s = s.reader

-- the errors that it gave
abbrev pub read_faults : {R : Type 0} → ReadSource R → ℕ
read_faults s = s.faults

-- the writer under a sink
abbrev pub writer_of : {W : Type 0} → WriteSink W → W
writer_of s = s.writer

-- the errors that it gave
abbrev pub write_faults : {W : Type 0} → WriteSink W → ℕ
write_faults s = s.faults
