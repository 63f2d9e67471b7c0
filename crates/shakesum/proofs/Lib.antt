mod Digest
