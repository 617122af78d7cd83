use Rattle.class_table.proofs.stored_ref.StoredRef.near.Goals as goal

pub near-requires : goal.near-requires
near-requires c = c.self.invariant
