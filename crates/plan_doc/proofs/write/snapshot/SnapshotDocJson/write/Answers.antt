use Rattle.plan_doc.proofs.write.snapshot.SnapshotDocJson.write.Goals as goal

pub returns : goal.returns
returns c = rw (c.quotas_given-quotas.ensures, c.parts-parts.ensures.value) at c.write.ensures
