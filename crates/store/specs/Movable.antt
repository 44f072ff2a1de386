-- The places of a record that can be moved d bytes along.
use Rattle.std.specs.Prelude.{ℕ, ◌+◌, ◌^◌, ◌<◌}
use Rattle.records.specs.declared.record.Record.{Record}

abbrev pub Movable : ℕ → Record → Type 0
Movable d r = (d + r.v < 2 ^ 64) × (d + r.a < 2 ^ 64) × (d + r.b < 2 ^ 64)
