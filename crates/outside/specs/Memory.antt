-- What callers see of the sources and sinks in memory.
use Rattle.outside.specs.Below.{ℕ, List, drop, vec_len, vec_capacity}
use Rattle.std.specs.Prelude.{◌-◌}
use Rattle.outside.specs.declared.faults.Plan.{Plan}
use Rattle.outside.specs.declared.memory.MemorySource.{MemorySource}
use Rattle.outside.specs.declared.memory.QuietSource.{QuietSource}
use Rattle.outside.specs.declared.memory.MemorySink.{MemorySink}
use Rattle.outside.specs.declared.memory.QuietSink.{QuietSink}

-- the bytes that it has still to give
abbrev pub source_left : MemorySource → List ℕ
source_left source = drop source.place source.bytes.items

-- the calls that are to fail, and have failed
abbrev pub source_plan : MemorySource → Plan
source_plan source = source.plan

-- the bytes that it has still to give
abbrev pub quiet_left : QuietSource → List ℕ
quiet_left source = drop source.place source.bytes.items

-- the most bytes that it gives in a call
abbrev pub source_chunk : MemorySource → ℕ
source_chunk source = source.chunk

-- the bytes that it has taken
abbrev pub sink_bytes : MemorySink → List ℕ
sink_bytes sink = sink.bytes.items

-- the calls that are to fail, and have failed
abbrev pub sink_plan : MemorySink → Plan
sink_plan sink = sink.plan

-- the most bytes that it takes in a call
abbrev pub sink_chunk : MemorySink → ℕ
sink_chunk sink = sink.chunk

-- how many more it takes without asking for memory
abbrev pub sink_room : MemorySink → ℕ
sink_room sink = vec_capacity sink.bytes - vec_len sink.bytes

-- the bytes that it has taken
abbrev pub quiet_bytes : QuietSink → List ℕ
quiet_bytes sink = sink.bytes.items

-- how many more it takes without asking for memory
abbrev pub quiet_room : QuietSink → ℕ
quiet_room sink = vec_capacity sink.bytes - vec_len sink.bytes
